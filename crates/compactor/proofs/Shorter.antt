-- Where the given script is not refused, the compacted one is not refused either, and ends with the same list, with a peak no higher. Document 02, Eleven.
-- Assumes nothing.
use mathlib.Core.Path.{◌≡◌, refl, sym, ap, ap₂, ◌∙◌, subst}
use mathlib.Core.Bool.{Bool, true, false, cond}
use mathlib.Core.List.{List, [], ◌∷◌}
use Prim.Native.Nat.{ℕ, zero, suc, ◌+◌, ◌≤◌, max}
use native.Mathlib.Omega.{arith}
use lib.ListN.{length}
use Rattle.bits.specs.Sums.{All}
use Rattle.bits.proofs.Subsequences.{all_subsequence}
use Rattle.cube.specs.declared.Cube.{Cube}
use Rattle.cube.specs.Cubes.{Good}
use Rattle.steps.specs.Moves.{next}
use Rattle.steps.specs.Steps.{Step, Allowed, step}
use Rattle.steps.proofs.Kept.{taken_back, step_count, step_kept}
use Rattle.steps.proofs.Linear.{Linear, exchanged_list_twice}
use Rattle.script.specs.Run.{Ran, stopped, ended, onward, steps_from, unstep, undo_by, undo, finish, run}
use Rattle.script.proofs.Counts.{shifted, steps_shift}
use Rattle.script.proofs.Pending.{undo_good}
use Rattle.script.proofs.Runs.{ended_list, ended_peak, not_ended, OnwardBy, onward_by, steps_end_by}
use Rattle.script.proofs.Value.{run_finished, steps_keeping}
use Rattle.compactor.specs.Compact.{Pair, two_l, two_turns, split_and_join, step_pair, count_after, without_first, again, compacted}
use Rattle.compactor.proofs.Pairs.{pair_kind}
use Rattle.compactor.proofs.Removing.{first_subsequence}
use Rattle.compactor.proofs.Undone.{pair_back}

-- a run, or the steps of one, ends in the list m, with a peak no higher than p
pub record EndsLower (r : Ran Cube) (m : List Cube) (p : ℕ) : Type 0 where
  pub peak : ℕ
  pub is : r ≡ ended m peak
  pub no_higher : peak ≤ p

module _ (n cap : ℕ) where
  -- the same steps, two numbers earlier and from a peak that is no higher
  earlier : (s q k : ℕ) (xs : List Step) (l m : List Cube) (p : ℕ) → q ≤ k → steps_from (step n cap) (suc (suc s)) k xs l ≡ ended m p
      → EndsLower (steps_from (step n cap) s q xs l) m p
  earlier s q k xs l m p h e =
      let number : 2 + s ≡ suc (suc s) = omega arith in
      let peak : max k q ≡ k = omega arith in
      go (steps_from (step n cap) s q xs l) refl (sym (steps_shift (step n cap) 2 k s q xs l) ∙ ap₂ (λ (i j : ℕ). steps_from (step n cap) i j xs l) number peak ∙ e)
    where
      go : (r : Ran Cube) → steps_from (step n cap) s q xs l ≡ r → shifted (step n cap) 2 k r ≡ ended m p → EndsLower (steps_from (step n cap) s q xs l) m p
      go (stopped why i) f e = absurd (not_ended e)
      go (ended l' p') f e = record { peak = p'; is = f ∙ ap (λ (t : List Cube). ended t p') (ended_list e); no_higher = omega (arith, ended_peak e) }

  -- ---- one removal

  -- the count is the list's own
  count_step : (x : Step) (l r : List Cube) → step n cap x l ≡ next r → count_after (length l) x ≡ length r
  unfolding count_after
  count_step x l r e = omega (arith, step_count n cap x l r e)

  first_steps : (xs : List Step) (s q : ℕ) (l m : List Cube) (p count : ℕ) → count ≡ length l → All (Allowed n) xs → All (Good n) l
      → steps_from (step n cap) s q xs l ≡ ended m p → EndsLower (steps_from (step n cap) s q (without_first count xs) l) m p
  unfolding steps_from without_first
  first_steps [] s q l m p count c h a e = record { peak = p; is = e; no_higher = omega arith }
  first_steps (x ∷ []) s q l m p count c h a e = record { peak = p; is = e; no_higher = omega arith }
  first_steps (x ∷ y ∷ xs) s q l m p count c h a e =
      choose (step_pair count x y) refl
      (first_steps (y ∷ xs) (suc s) (max q (length o.between)) o.between m p (count_after count x)
      (ap (λ (k : ℕ). count_after k x) c ∙ count_step x l o.between o.first) h.1 (step_kept n cap l o.between a x h.0 o.first).good o.rest)
    where
      o : OnwardBy (step n cap) s q x (y ∷ xs) l m p
      o = onward_by (step n cap) s q x (y ∷ xs) l m p e

      -- the pair is done, and the list is what it was before it
      gone : step_pair count x y ≡ true → EndsLower (steps_from (step n cap) s q xs l) m p
      gone u =
          let r : List Cube = o.between in
          let w = onward_by (step n cap) (suc s) (max q (length r)) y xs r m p o.rest in
          let top : ℕ = max (max q (length r)) (length w.between) in
          let back : w.between ≡ l =
          pair_back n cap l r w.between a x y (subst (λ (k : ℕ). Pair k x y) c (pair_kind count x y u)) h.0 o.first w.first in
          earlier s q top xs l m p (omega arith) (subst (λ (t : List Cube). steps_from (step n cap) (suc (suc s)) top xs t ≡ ended m p) back w.rest)

      choose : (b : Bool) → step_pair count x y ≡ b
          → EndsLower (steps_from (step n cap) (suc s) (max q (length o.between)) (without_first (count_after count x) (y ∷ xs)) o.between) m p
          → EndsLower (steps_from (step n cap) s q (cond b xs (x ∷ without_first (count_after count x) (y ∷ xs))) l) m p
      choose true u z = gone u
      choose false u z = record {
        peak = z.peak;
        is =
            ap (onward s (λ t. steps_from (step n cap) (suc s) (max q (length t)) (without_first (count_after count x) (y ∷ xs)) t)) o.first ∙ z.is;
        no_higher = z.no_higher;
      }

  -- to undo a pair does nothing
  pair_undone : (count : ℕ) (x y : Step) → Pair count x y → Allowed n x → (l : List Cube) → All (Good n) l → unstep x (unstep y l) ≡ l
  pair_undone count x y p = go p
    where
      go : {x y : Step} → Pair count x y → Allowed n x → (l : List Cube) → All (Good n) l → unstep x (unstep y l) ≡ l
      go (two_l {v} {b}) h l a = exchanged_list_twice n v b h.0 h.1 l a
      go two_turns h l a = refl
      go split_and_join h l a = refl

  -- so the L steps that are left undo the same
  first_undone : (count : ℕ) (xs : List Step) → All (Allowed n) xs → (l : List Cube) → All (Good n) l → undo (without_first count xs) l ≡ undo xs l
  unfolding without_first undo_by
  first_undone count [] h l a = refl
  first_undone count (x ∷ []) h l a = refl
  first_undone count (x ∷ y ∷ xs) h l a = choose (step_pair count x y) refl (first_undone (count_after count x) (y ∷ xs) h.1 l a)
    where
      choose : (b : Bool) → step_pair count x y ≡ b → undo (without_first (count_after count x) (y ∷ xs)) l ≡ undo (y ∷ xs) l
          → undo (cond b xs (x ∷ without_first (count_after count x) (y ∷ xs))) l ≡ unstep x (unstep y (undo xs l))
      choose true u z = sym (pair_undone count x y (pair_kind count x y u) h.0 (undo xs l) (undo_good n xs h.1.1 l a))
      choose false u z = ap (unstep x) z

  first_run : (xs : List Step) (l m : List Cube) (p : ℕ) → All (Allowed n) xs → All (Good n) l → run n cap xs l ≡ ended m p
      → EndsLower (run n cap (without_first (length l) xs) l) m p
  unfolding run
  first_run xs l m p h a e =
      let ys : List Step = without_first (length l) xs in
      let f = run_finished n cap xs l m p e in
      let z = first_steps xs 0 (length l) l f.last p (length l) refl h a f.steps in
      let g = (steps_end_by (step n cap) unstep taken_back (Good n) (Linear n) (Allowed n) (steps_keeping n cap) 0 (length l) xs l f.last p h a f.steps).good in
      record {
        peak = z.peak;
        is = ap (finish ys) z.is ∙ ap (λ (t : List Cube). ended t z.peak) (first_undone (length l) xs h f.last g ∙ sym f.list);
        no_higher = z.no_higher;
      }

  -- ---- until none is left

  again_run : (k : ℕ) (xs : List Step) (l m : List Cube) (p : ℕ) → All (Allowed n) xs → All (Good n) l → run n cap xs l ≡ ended m p
      → EndsLower (run n cap (again k (length l) xs) l) m p
  unfolding again
  again_run zero xs l m p h a e = record { peak = p; is = e; no_higher = omega arith }
  again_run (suc k) xs l m p h a e =
      let r = first_run xs l m p h a e in
      let z = again_run k (without_first (length l) xs) l m r.peak (all_subsequence (Allowed n) (first_subsequence (length l) xs) h) a r.is in
      record { peak = z.peak; is = z.is; no_higher = omega (arith, z.no_higher, r.no_higher) }

  -- "Where the given script is not refused, the short one is not refused either, and ends with the same list, with a peak no higher"
  pub compacted_run : (xs : List Step) (l m : List Cube) (p : ℕ) → All (Allowed n) xs → All (Good n) l → run n cap xs l ≡ ended m p
      → EndsLower (run n cap (compacted (length l) xs) l) m p
  unfolding compacted
  compacted_run xs l m p h a e = again_run (length xs) xs l m p h a e

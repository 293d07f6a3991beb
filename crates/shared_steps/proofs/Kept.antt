-- One step on shared products that is not refused: a fine list stays fine, every fair weight keeps its sum up to the step's own undoing, and the count
-- changes as it should.
-- Assumes nothing.
use mathlib.Core.Path.{◌≡◌, sym, ap, ◌∙◌, subst}
use mathlib.Core.Logic.{◌≢◌}
use mathlib.Core.Bool.{Bool}
use mathlib.Core.List.{List, map}
use Prim.Native.Nat.{ℕ, ◌+◌, ◌*◌, ◌≤◌, ◌<◌, max}
use native.Mathlib.Omega.{arith}
use lib.ListN.{length, length-map}
use Rattle.bits.specs.Sums.{sum, All}
use Rattle.bits.proofs.Sums.{sum_map, all_map, all_get, all_get_or, all_each, map_back}
use Rattle.cube.specs.Cubes.{Good}
use Rattle.cube.proofs.Codes.{one_good}
use Rattle.steps.specs.Moves.{Move, joins, next, applied}
use Rattle.steps.specs.Steps.{drop, join, split, turn, L, exchanged, is_split, is_join, is_drop}
use Rattle.steps.specs.Changes.{Placed}
use Rattle.steps.proofs.Linear.{exchanged_twice}
use Rattle.steps.proofs.Balanced.{next_same, applied_count, sound_made}
use Rattle.steps.proofs.Kept.{taken_back, taken_back_good, taken_back_linear, step_count}
use Rattle.steps.proofs.Onward.{Stepwise}
use Rattle.steps.proofs.step.Stepping.{step_fits}
use Rattle.shared.specs.declared.Shared.{Shared}
use Rattle.shared.specs.SharedRecord.{sharing, no_shared, shares, Fine}
use Rattle.shared.proofs.SharedRecord.{shared_lawful}
use Rattle.shared_steps.specs.SharedSteps.{SharedStep, plain, merge, SharedAllowed, shared_at, shared_decision, on_cube, shared_step, is_merge, of_plain}
use Rattle.shared_steps.proofs.Fair.{Fair}
use Rattle.shared_steps.proofs.Inversion.{merge_accepted}
use Rattle.shared_steps.proofs.Sound.{SharedSound, alike_drop_sound, alike_join_sound, alike_turn_sound, carried_split_sound, merge_sound}
use Rattle.shared_steps.proofs.Projects.{plain_projects}

-- ---- a step taken back, product by product: an L step is its own inverse, and nothing else is taken back

abbrev pub shared_back : SharedStep → Shared → Shared
shared_back (plain x) r = on_cube (taken_back x) r
shared_back (merge i j) r = r

pub shared_back_fine : (n : ℕ) (x : SharedStep) → SharedAllowed n x → (r : Shared) → Fine n r → Fine n (shared_back x r)
shared_back_fine n (plain x) h r f = record { good = taken_back_good n x h r.cube f.good; some = f.some }
shared_back_fine n (merge i j) h r f = f

pub shared_back_fair : (n : ℕ) (x : SharedStep) → SharedAllowed n x → (w : Shared → Bool) → Fair n w → Fair n (λ r. w (shared_back x r))
shared_back_fair n (plain x) h w f = record {
  linear = λ o. taken_back_linear n x h (λ c. w (sharing o c)) (f.linear o);
  adds = λ c o p. f.adds (taken_back x c) o p;
}
shared_back_fair n (merge i j) h w f = f

-- ---- one step

pub record Kept (n : ℕ) (x : SharedStep) (l m : List Shared) : Type 0 where
  pub good : All (Fine n) m
  pub sums : (w : Shared → Bool) → Fair n w → sum (λ r. w (shared_back x r)) m ≡ sum w l

module _ (n : ℕ) (l : List Shared) (a : All (Fine n) l) where
  -- the cube looked up is good, also past the end, where there are no outputs
  pub good_shared : (i : ℕ) → Good n (shared_at l i).cube
  good_shared i = all_get_or (λ r. Good n r.cube) l i no_shared (all_each (Fine n) (λ r. Good n r.cube) (λ r f. f.good) l a) (one_good n)

  pub some_shared : (i : ℕ) → i < length l → (shared_at l i).outputs ≢ 0
  some_shared i h = (all_get (Fine n) l i no_shared a h).some

module _ (n cap : ℕ) (l m : List Shared) (a : All (Fine n) l) where
  made : (i j : ℕ) (y : Move Shared) → SharedSound n (length l) cap i j (shared_at l i) (shared_at l j) y → applied no_shared i j l y ≡ next m
      → All (Fine n) m × ((w : Shared → Bool) → Fair n w → sum w m ≡ sum w l)
  made i j y s e = sound_made (Fine n) (Fair n) no_shared l m cap i j y s a e

  pub shared_step_kept : (x : SharedStep) → SharedAllowed n x → shared_step n cap x l ≡ next m → Kept n x l m
  unfolding shared_step shared_decision
  shared_step_kept (plain (drop i j)) h e =
      let t = made i j _ (alike_drop_sound n (length l) cap i j (shared_at l i) (shared_at l j) (good_shared n l a i) (good_shared n l a j) (some_shared n l a i)) e in
      record { good = t.0; sums = t.1 }
  shared_step_kept (plain (join i j)) h e =
      let t = made i j _ (alike_join_sound n (length l) cap i j (shared_at l i) (shared_at l j) (good_shared n l a i) (good_shared n l a j) (some_shared n l a i)) e in
      record { good = t.0; sums = t.1 }
  shared_step_kept (plain (split v i)) h e =
      let t = made i i _ (carried_split_sound n (length l) cap i i (shared_at l i) (shared_at l i) v (good_shared n l a i) (some_shared n l a i) h) e in
      record { good = t.0; sums = t.1 }
  shared_step_kept (plain (turn v i j)) h e =
      let t = made i j _ (alike_turn_sound n (length l) cap i j (shared_at l i) (shared_at l j) (good_shared n l a i) (good_shared n l a j) (some_shared n l a i) v) e in
      record { good = t.0; sums = t.1 }
  shared_step_kept (plain (L v b)) h e = record {
    good = subst (All (Fine n)) (next_same e) (all_map (Fine n) (Fine n) (on_cube (exchanged v b)) (shared_back_fine n (plain (L v b)) h) l a);
    sums = λ w fair.
        ap (sum (λ r. w (on_cube (exchanged v b) r))) (sym (next_same e))
        ∙ sym (sum_map w (on_cube (exchanged v b)) (map (on_cube (exchanged v b)) l))
        ∙ ap (sum w) (map_back (Fine n) (on_cube (exchanged v b)) (on_cube (exchanged v b))
        (λ r f. ap (sharing r.outputs) (exchanged_twice n v b h.0 h.1 r.cube f.good)) l a);
  }
  shared_step_kept (merge i j) h e =
      let t = made i j _ (merge_sound n (length l) cap i j (shared_at l i) (shared_at l j) (good_shared n l a i) (good_shared n l a j)) e in
      record { good = t.0; sums = t.1 }

-- ---- counts: those of a plain step are those of the step on the cubes, and "The merge takes one product"

pub shared_step_count : (n cap : ℕ) (x : SharedStep) (l m : List Shared) → shared_step n cap x l ≡ next m
    → length m + (of_plain is_join x + is_merge x) + 2 * of_plain is_drop x ≡ length l + of_plain is_split x
unfolding applied Placed
shared_step_count n cap (plain x) l m e =
    omega (arith, step_count n cap x (map (λ r. r.cube) l) (map (λ r. r.cube) m) (plain_projects n cap x l m e), length-map l (λ r. r.cube), length-map m (λ r. r.cube))
shared_step_count n cap (merge i j) l m e =
    let r = merge_accepted n cap i j l m e in
    omega (arith, applied_count no_shared l m cap i j (joins _) r.places (ap next (sym r.list)))

pub shared_step_most : (n cap : ℕ) (x : SharedStep) (l m : List Shared) → shared_step n cap x l ≡ next m → length m ≤ max cap (length l)
shared_step_most n cap (plain x) l m e =
    let most = step_fits n cap (max cap (length l)) x (map (λ r. r.cube) l) (map (λ r. r.cube) m) (omega (arith, length-map l (λ r. r.cube))) (omega arith)
    (plain_projects n cap x l m e) in
    omega (arith, length-map m (λ r. r.cube))
shared_step_most n cap (merge i j) l m e = omega (arith, shared_step_count n cap (merge i j) l m e)

-- shared products step by step
pub shares_stepwise : (n cap : ℕ) → Stepwise shares (shared_step n cap) (Fine n) (SharedAllowed n) cap
shares_stepwise n cap = record {
  lawful = shared_lawful;
  good = λ x l m fits g e. (shared_step_kept n cap l m g x fits e).good;
  most = λ x l m e. shared_step_most n cap x l m e;
}

-- The easy script: each of its steps is accepted and takes at least one product away; its run ends in the end list, with the given count as peak.
-- Assumes nothing.
use mathlib.Core.Path.{◌≡◌, refl, sym, ap, ◌∙◌, subst}
use mathlib.Core.Bool.{Bool, true, false, cond}
use mathlib.Core.List.{List, [], ◌∷◌}
use Prim.Native.Nat.{ℕ, zero, suc, ◌+◌, ◌≤◌, ◌<◌, max}
use native.Mathlib.Omega.{arith}
use borrow.Author.Tests.{leb-true}
use lib.ListN.{length}
use Rattle.bits.specs.Sums.{All}
use Rattle.cube.specs.declared.Cube.{Cube}
use Rattle.cube.specs.Cubes.{one, apart, differing_number}
use Rattle.cube.proofs.Apart.{apart_number}
use Rattle.steps.specs.Effects.{TwoPlaces}
use Rattle.steps.specs.Moves.{next, drop_at, join_at}
use Rattle.steps.specs.Steps.{Step, Allowed, cube_at, third_at, step}
use Rattle.steps.proofs.Balanced.{next_same}
use Rattle.steps.proofs.Inversion.{drop_accepts, join_accepts}
use Rattle.script.specs.Run.{ended, onward, steps_from, unstep, undo_by, undo, finish, run}
use Rattle.writer.specs.Pairs.{pair, partner, lowest, has_pair, First}
use Rattle.writer.specs.Easy.{step_by, step_at, easy_step, came, easy_next, easy_steps, easy_end}
use Rattle.writer.proofs.Pairs.{has_first, first_lowest, first_partner, pair_has}
use Rattle.writer.proofs.Moves.{Moved, drop_moved, join_moved}

-- ---- one step

-- the step x of the pair i, j is accepted, whatever the capacity, and is no L
record Taken (n : ℕ) (l : List Cube) (i j : ℕ) (x : Step) : Type 0 where
  list : List Cube
  accepts : (cap : ℕ) → step n cap x l ≡ next list
  moved : Moved one l list i j
  fits : Allowed n x
  plain : (t : List Cube) → unstep x t ≡ t

pub pair_places : (n : ℕ) (l : List Cube) (i j : ℕ) → First n l i j → TwoPlaces (length l) i j
pair_places n l i j p = record { first = omega (arith, p.is.above, p.is.inside); second = p.is.inside; unlike = λ e. omega (arith, p.is.above) }

taken : (n : ℕ) (l : List Cube) (i j : ℕ) → First n l i j → Taken n l i j (step_at n l i j)
unfolding pair
taken n l i j p =
    subst (λ (k : ℕ). Taken n l i j (step_by k i j)) (apart_number n (cube_at l i) (cube_at l j))
    (go (apart n (cube_at l i) (cube_at l j)) refl (omega (arith, leb-true (differing_number n (cube_at l i) (cube_at l j)) 1 p.is.near, apart_number n (cube_at l i) (cube_at l j))))
  where
    go : (vs : List ℕ) → apart n (cube_at l i) (cube_at l j) ≡ vs → length vs ≤ 1 → Taken n l i j (step_by (length vs) i j)
    go [] e h = record {
      list = drop_at one l i j;
      accepts = λ cap. drop_accepts n cap i j l (drop_at one l i j) (record { places = pair_places n l i j p; differ = e; list = refl });
      moved = drop_moved one l i j p.is.above p.is.inside;
      fits = tt {0};
      plain = λ t. refl;
    }
    go (v ∷ []) e h =
        let x : Cube = third_at (cube_at l i) (cube_at l j) v in
        record {
          list = join_at one l i j x;
          accepts = λ cap. join_accepts n cap i j l (join_at one l i j x) (record { places = pair_places n l i j p; v = v; differ = e; list = refl });
          moved = join_moved one l i j p.is.above p.is.inside x;
          fits = tt {0};
          plain = λ t. refl;
        }
    go (v ∷ u ∷ vs) e h = absurd (omega arith)

module _ (n : ℕ) (l : List Cube) (h : has_pair n l ≡ true) where
  t : Taken n l (lowest n l) (partner n l (lowest n l)) (easy_step n l)
  unfolding easy_step
  t = taken n l (lowest n l) (partner n l (lowest n l)) (has_first n l h)

  next_is : easy_next n l ≡ t.list
  unfolding easy_next
  next_is = ap (came l) (t.accepts (length l))

  -- each written step is accepted, in any capacity
  pub easy_accepted : (cap : ℕ) → step n cap (easy_step n l) l ≡ next (easy_next n l)
  easy_accepted cap = t.accepts cap ∙ ap next (sym next_is)

  easy_moved : Moved one l (easy_next n l) (lowest n l) (partner n l (lowest n l))
  easy_moved = subst (λ (m : List Cube). Moved one l m (lowest n l) (partner n l (lowest n l))) (sym next_is) t.moved

  -- it takes at least one product away
  pub easy_fewer : length (easy_next n l) < length l
  easy_fewer = easy_moved.fewer

  pub easy_fits : Allowed n (easy_step n l)
  easy_fits = t.fits

  easy_plain : (m : List Cube) → unstep (easy_step n l) m ≡ m
  easy_plain = t.plain

-- the same of the first pair, by its places
module _ (n : ℕ) (l : List Cube) (i j : ℕ) (p : First n l i j) where
  pub first_has : has_pair n l ≡ true
  first_has = pair_has n l i j p.is

  pub first_step : step_at n l i j ≡ easy_step n l
  unfolding easy_step
  first_step = λ k. step_at n l (sym (first_lowest n l i j p) k) (sym (first_partner n l i j p) k)

  pub first_moved : Moved one l (easy_next n l) i j
  first_moved =
      subst (λ (y : ℕ). Moved one l (easy_next n l) i y) (first_partner n l i j p)
      (subst (λ (x : ℕ). Moved one l (easy_next n l) x (partner n l (lowest n l))) (first_lowest n l i j p) (easy_moved n l first_has))

  -- what the step is: by the variables in which the cubes differ
  step_of : (vs : List ℕ) → apart n (cube_at l i) (cube_at l j) ≡ vs → easy_step n l ≡ step_by (length vs) i j
  step_of vs e = sym first_step ∙ ap (λ (k : ℕ). step_by k i j) (sym (apart_number n (cube_at l i) (cube_at l j)) ∙ ap length e)

  pub first_dropped : apart n (cube_at l i) (cube_at l j) ≡ [] → easy_next n l ≡ drop_at one l i j
  first_dropped e =
      next_same (sym (easy_accepted n l first_has 0) ∙ ap (λ (x : Step). step n 0 x l) (step_of [] e)
      ∙ drop_accepts n 0 i j l (drop_at one l i j) (record { places = pair_places n l i j p; differ = e; list = refl }))

  pub first_joined : (v : ℕ) → apart n (cube_at l i) (cube_at l j) ≡ v ∷ [] → easy_next n l ≡ join_at one l i j (third_at (cube_at l i) (cube_at l j) v)
  first_joined v e =
      next_same (sym (easy_accepted n l first_has 0) ∙ ap (λ (x : Step). step n 0 x l) (step_of (v ∷ []) e)
      ∙ join_accepts n 0 i j l (join_at one l i j (third_at (cube_at l i) (cube_at l j) v)) (record { places = pair_places n l i j p; v = v; differ = e; list = refl }))

-- ---- all steps

-- by whether there is a pair
module _ (n m : ℕ) (l : List Cube) where
  pub steps_pair : has_pair n l ≡ true → easy_steps n (suc m) l ≡ easy_step n l ∷ easy_steps n m (easy_next n l)
  unfolding easy_steps
  steps_pair e = ap (λ (b : Bool). cond b (easy_step n l ∷ easy_steps n m (easy_next n l)) []) e

  pub end_pair : has_pair n l ≡ true → easy_end n (suc m) l ≡ easy_end n m (easy_next n l)
  unfolding easy_end
  end_pair e = ap (λ (b : Bool). cond b (easy_end n m (easy_next n l)) l) e

pub steps_none : (n m : ℕ) (l : List Cube) → has_pair n l ≡ false → easy_steps n m l ≡ []
unfolding easy_steps
steps_none n zero l e = refl
steps_none n (suc m) l e = ap (λ (b : Bool). cond b (easy_step n l ∷ easy_steps n m (easy_next n l)) []) e

pub end_none : (n m : ℕ) (l : List Cube) → has_pair n l ≡ false → easy_end n m l ≡ l
unfolding easy_end
end_none n zero l e = refl
end_none n (suc m) l e = ap (λ (b : Bool). cond b (easy_end n m (easy_next n l)) l) e

-- no step is left
pub no_steps : (n : ℕ) (l : List Cube) → easy_steps n 0 l ≡ []
unfolding easy_steps
no_steps n l = refl

pub no_end : (n : ℕ) (l : List Cube) → easy_end n 0 l ≡ l
unfolding easy_end
no_end n l = refl

-- induction over the steps: at the end of them, and before a step
pub easy_ind : (n : ℕ) (P : ℕ → List Cube → Type 0) → ((l : List Cube) → P zero l) → ((m : ℕ) (l : List Cube) → has_pair n l ≡ false → P (suc m) l)
    → ((m : ℕ) (l : List Cube) → has_pair n l ≡ true → P m (easy_next n l) → P (suc m) l) → (m : ℕ) (l : List Cube) → P m l
easy_ind n P base none more zero l = base l
easy_ind n P base none more (suc m) l = go (has_pair n l) refl (easy_ind n P base none more m (easy_next n l))
  where
    go : (b : Bool) → has_pair n l ≡ b → P m (easy_next n l) → P (suc m) l
    go true e ih = more m l e ih
    go false e ih = none m l e

-- at most so many steps, and each takes a product away
pub easy_count : (n m : ℕ) (l : List Cube) → (length (easy_steps n m l) ≤ m) × (length (easy_steps n m l) + length (easy_end n m l) ≤ length l)
unfolding easy_steps easy_end
easy_count n =
    easy_ind n (λ m l. (length (easy_steps n m l) ≤ m) × (length (easy_steps n m l) + length (easy_end n m l) ≤ length l))
    (λ l. (omega arith, omega arith))
    (λ m l e. (omega (arith, ap length (steps_none n (suc m) l e)), omega (arith, ap length (steps_none n (suc m) l e), ap length (end_none n (suc m) l e))))
    (λ m l e ih. (
      omega (arith, ap length (steps_pair n m l e), ih.0),
      omega (arith, ap length (steps_pair n m l e), ap length (end_pair n m l e), ih.1, easy_fewer n l e),
    ))

-- every step fits
pub easy_fit : (n m : ℕ) (l : List Cube) → All (Allowed n) (easy_steps n m l)
unfolding easy_steps
easy_fit n =
    easy_ind n (λ m l. All (Allowed n) (easy_steps n m l)) (λ l. tt {0}) (λ m l e. subst (All (Allowed n)) (sym (steps_none n (suc m) l e)) (tt {0}))
    (λ m l e ih. subst (All (Allowed n)) (sym (steps_pair n m l e)) (easy_fits n l e, ih))

-- nothing is undone
easy_undo : (n m : ℕ) (l r : List Cube) → undo (easy_steps n m l) r ≡ r
unfolding easy_steps undo_by
easy_undo n =
    easy_ind n (λ m l. (r : List Cube) → undo (easy_steps n m l) r ≡ r) (λ l r. refl) (λ m l e r. ap (λ (xs : List Step). undo xs r) (steps_none n (suc m) l e))
    (λ m l e ih r. ap (λ (xs : List Step). undo xs r) (steps_pair n m l e) ∙ easy_plain n l e (undo (easy_steps n m (easy_next n l)) r) ∙ ih r)

-- no step is refused
easy_from : (n cap m : ℕ) (l : List Cube) (s q : ℕ) → length l ≤ q → steps_from (step n cap) s q (easy_steps n m l) l ≡ ended (easy_end n m l) q
unfolding easy_steps easy_end steps_from
easy_from n cap =
    easy_ind n (λ m l. (s q : ℕ) → length l ≤ q → steps_from (step n cap) s q (easy_steps n m l) l ≡ ended (easy_end n m l) q) (λ l s q h. refl)
    (λ m l e s q h.
    ap (λ (xs : List Step). steps_from (step n cap) s q xs l) (steps_none n (suc m) l e) ∙ ap (λ (r : List Cube). ended r q) (sym (end_none n (suc m) l e)))
    (λ m l e ih s q h.
    let xs : List Step = easy_steps n m (easy_next n l) in
    let most : max q (length (easy_next n l)) ≡ q = omega (arith, easy_fewer n l e) in
    ap (λ (ys : List Step). steps_from (step n cap) s q ys l) (steps_pair n m l e)
    ∙ ap (onward s (λ r. steps_from (step n cap) (suc s) (max q (length r)) xs r)) (easy_accepted n l e cap)
    ∙ ap (λ (p : ℕ). steps_from (step n cap) (suc s) p xs (easy_next n l)) most
    ∙ ih (suc s) q (omega (arith, easy_fewer n l e))
    ∙ ap (λ (r : List Cube). ended r q) (sym (end_pair n m l e)))

-- its run, in any capacity, ends in the end list, and the peak is the given count
pub easy_run : (n cap m : ℕ) (l : List Cube) → run n cap (easy_steps n m l) l ≡ ended (easy_end n m l) (length l)
unfolding run
easy_run n cap m l =
    ap (finish (easy_steps n m l)) (easy_from n cap m l 0 (length l) (omega arith))
    ∙ ap (λ (r : List Cube). ended r (length l)) (easy_undo n m l (easy_end n m l))

-- where it stops before its limit no pair is left
pub easy_short : (n m : ℕ) (l : List Cube) → length (easy_steps n m l) < m → has_pair n (easy_end n m l) ≡ false
unfolding easy_steps
easy_short n =
    easy_ind n (λ m l. length (easy_steps n m l) < m → has_pair n (easy_end n m l) ≡ false) (λ l h. absurd (omega arith))
    (λ m l e h. ap (has_pair n) (end_none n (suc m) l e) ∙ e)
    (λ m l e ih h. ap (has_pair n) (end_pair n m l e) ∙ ih (omega (arith, ap length (steps_pair n m l e))))

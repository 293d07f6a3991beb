-- What is pending of a script for shared products, taken back at once in every cube, undoes its L steps one by one. A merge has nothing to be undone, so the script is
-- looked at as one of plain steps, and the laws of those are cited.
-- Assumes nothing.
use mathlib.Core.Path.{◌≡◌, refl, sym, ap, ◌∙◌, subst}
use mathlib.Core.List.{List, [], ◌∷◌, map}
use Prim.Native.Nat.{ℕ, ◌≤◌, ◌<◌}
use lib.ListN.{length, length-map}
use Rattle.bits.specs.Sums.{All}
use Rattle.bits.proofs.Sums.{map_same, map_each, all_map}
use Rattle.cube.specs.declared.Cube.{Cube}
use Rattle.cube.specs.Lists.{most_variables}
use Rattle.orders.specs.Orders.{order_count}
use Rattle.steps.specs.Steps.{Step, drop, join, split, turn, L, Allowed}
use Rattle.script.specs.Run.{undo_by}
use Rattle.script.specs.Pending.{none_pending, pend_by, pend, restored}
use Rattle.script.proofs.Runs.{undone_by, undo_by_map}
use Rattle.script.proofs.Pending.{undone, undone_restored, pend_step_length, pending_orders}
use Rattle.shared.specs.declared.Shared.{Shared}
use Rattle.shared.specs.SharedRecord.{Fine}
use Rattle.shared_steps.specs.SharedSteps.{SharedStep, plain, merge, SharedAllowed, on_cube}
use Rattle.shared_steps.proofs.Kept.{shared_back}
use Rattle.shared_run.specs.SharedRun.{shared_unstep, pend_shared}

-- a plain step that has as much pending and to be undone: a drop has nothing
abbrev as_plain : SharedStep → Step
as_plain (plain x) = x
as_plain (merge i j) = drop 0 0

as_allowed : (n : ℕ) (x : SharedStep) → SharedAllowed n x → Allowed n (as_plain x)
as_allowed n (plain x) h = h
as_allowed n (merge i j) h = tt {0}

-- ---- what is pending

pub pend_shared_length : (os : List ℕ) (x : SharedStep) → length (pend_shared os x) ≡ length os
pend_shared_length os (plain x) = pend_step_length os x
pend_shared_length os (merge i j) = refl

pend_as_plain : (xs : List SharedStep) (os : List ℕ) → pend_by pend_shared os xs ≡ pend os (map as_plain xs)
unfolding pend_by
pend_as_plain [] os = refl
pend_as_plain (plain x ∷ xs) os = pend_as_plain xs (pend_shared os (plain x))
pend_as_plain (merge i j ∷ xs) os = pend_as_plain xs os

-- every order is one of the six
pub shared_orders : (xs : List SharedStep) → All (λ o. o < order_count) (pend_by pend_shared none_pending xs)
shared_orders xs = subst (All (λ o. o < order_count)) (sym (pend_as_plain xs none_pending)) (pending_orders (map as_plain xs))

-- ---- the undoing, product by product

pub unstep_back : (x : SharedStep) (l : List Shared) → shared_unstep x l ≡ map (shared_back x) l
unstep_back (plain (drop i j)) l = map_same l
unstep_back (plain (join i j)) l = map_same l
unstep_back (plain (split v i)) l = map_same l
unstep_back (plain (turn v i j)) l = map_same l
unstep_back (plain (L v b)) l = refl
unstep_back (merge i j) l = map_same l

undone_back : (xs : List SharedStep) (r : Shared) → undone_by shared_back xs r ≡ on_cube (undone (map as_plain xs)) r
unfolding undone_by
undone_back [] r = refl
undone_back (plain x ∷ xs) r = ap (shared_back (plain x)) (undone_back xs r)
undone_back (merge i j ∷ xs) r = undone_back xs r

undo_shared : (xs : List SharedStep) (l : List Shared) → undo_by shared_unstep xs l ≡ map (undone_by shared_back xs) l
undo_shared xs l = undo_by_map shared_unstep shared_back unstep_back xs l

-- it leaves as many products
pub undo_shared_length : (xs : List SharedStep) (l : List Shared) → length (undo_by shared_unstep xs l) ≡ length l
undo_shared_length xs l = ap length (undo_shared xs l) ∙ length-map l (undone_by shared_back xs)

-- the whole list
pub undo_shared_pending : (n : ℕ) → n ≤ most_variables → (xs : List SharedStep) → All (SharedAllowed n) xs → (l : List Shared) → All (Fine n) l
    → undo_by shared_unstep xs l ≡ map (on_cube (restored n (pend_by pend_shared none_pending xs))) l
undo_shared_pending n few xs fits l a =
    undo_shared xs l
    ∙ map_each (Fine n) (undone_by shared_back xs) (on_cube (restored n (pend_by pend_shared none_pending xs)))
    (λ r g.
    undone_back xs r
    ∙ ap (λ (c : Cube). on_cube (λ d. c) r)
    (undone_restored n few (map as_plain xs) (all_map (SharedAllowed n) (Allowed n) as_plain (as_allowed n) xs fits) r.cube g.good
    ∙ ap (λ (os : List ℕ). restored n os r.cube) (sym (pend_as_plain xs none_pending))))
    l a

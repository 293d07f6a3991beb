-- A plain step that is accepted on shared products is that step on the list of their cubes.
-- Assumes nothing.
use mathlib.Core.Path.{◌≡◌, refl, sym, ap, ◌∙◌}
use mathlib.Core.List.{List, [], ◌∷◌, map}
use Prim.Native.Nat.{ℕ, zero, suc}
use lib.ListN.{length, get_or, length-map}
use Rattle.bits.proofs.Sums.{map_map}
use Rattle.cube.specs.declared.Cube.{Cube}
use Rattle.cube.specs.Cubes.{one}
use Rattle.steps.specs.Moves.{Move, refuse, drops, joins, splits, turns, next, applied, map_move}
use Rattle.steps.specs.Steps.{Step, drop, join, split, turn, L, drop_move, join_move, split_move, turn_move, exchanged, step}
use Rattle.steps.proofs.Balanced.{next_same, not_stopped, map_after, applied_map}
use Rattle.shared.specs.declared.Shared.{Shared}
use Rattle.shared.specs.SharedRecord.{no_shared}
use Rattle.shared_steps.specs.SharedSteps.{plain, shared_at, carried, alike, shared_decision, on_cube, shared_step}
use Rattle.shared_steps.proofs.Inversion.{alike_by, split_anywhere}

abbrev cube_in : Shared → Cube
cube_in r = r.cube

cube_at_lem : (l : List Shared) (i : ℕ) → get_or (map cube_in l) i one ≡ (shared_at l i).cube
cube_at_lem [] i = refl
cube_at_lem (r ∷ l) zero = refl
cube_at_lem (r ∷ l) (suc i) = cube_at_lem l i

carried_back : (a : Shared) (x : Move Cube) → map_move cube_in (carried a x) ≡ x
carried_back a (refuse r) = refl
carried_back a drops = refl
carried_back a (joins x) = refl
carried_back a (splits x y) = refl
carried_back a (turns x y) = refl

module _ (i j : ℕ) (l m : List Shared) where
  carried_projects : (a : Shared) (x : Move Cube) → applied no_shared i j l (carried a x) ≡ next m → applied one i j (map cube_in l) x ≡ next (map cube_in m)
  carried_projects a x e =
      ap (applied one i j (map cube_in l)) (sym (carried_back a x)) ∙ applied_map cube_in no_shared one i j l (carried a x) ∙ ap (map_after cube_in) e

  alike_projects : (a b : Shared) (x : Move Cube) → applied no_shared i j l (alike a b x) ≡ next m → applied one i j (map cube_in l) x ≡ next (map cube_in m)
  unfolding applied
  alike_projects a b x =
      alike_by a b (λ y. applied no_shared i j l y ≡ next m → applied one i j (map cube_in l) x ≡ next (map cube_in m)) (λ r e. absurd (not_stopped e)) x
      (λ o. carried_projects a x)

pub plain_projects : (n cap : ℕ) (x : Step) (l m : List Shared) → shared_step n cap (plain x) l ≡ next m
    → step n cap x (map (λ r. r.cube) l) ≡ next (map (λ r. r.cube) m)
unfolding shared_step shared_decision step
plain_projects n cap (drop i j) l m e =
    (λ t. applied one i j (map cube_in l) (drop_move n (length-map l cube_in t) i j (cube_at_lem l i t) (cube_at_lem l j t)))
    ∙ alike_projects i j l m (shared_at l i) (shared_at l j) _ e
plain_projects n cap (join i j) l m e =
    (λ t. applied one i j (map cube_in l) (join_move n (length-map l cube_in t) i j (cube_at_lem l i t) (cube_at_lem l j t)))
    ∙ alike_projects i j l m (shared_at l i) (shared_at l j) _ e
plain_projects n cap (split v i) l m e =
    (λ t. applied one i 0 (map cube_in l) (split_move (length-map l cube_in t) cap v i (cube_at_lem l i t)))
    ∙ carried_projects i 0 l m (shared_at l i) _ (sym (split_anywhere (length l) cap v i 0 (shared_at l i) l) ∙ e)
plain_projects n cap (turn v i j) l m e =
    (λ t. applied one i j (map cube_in l) (turn_move n (length-map l cube_in t) v i j (cube_at_lem l i t) (cube_at_lem l j t)))
    ∙ alike_projects i j l m (shared_at l i) (shared_at l j) _ e
plain_projects n cap (L v b) l m e =
    ap next (map_map (exchanged v b) cube_in l ∙ sym (map_map cube_in (on_cube (exchanged v b)) l) ∙ ap (map cube_in) (next_same e))

-- A step on shared products is refused for one reason at most, and for none where its places and products are as it needs.
-- Assumes nothing.
use mathlib.Core.Path.{◌≡◌, refl}
use mathlib.Core.Logic.{◌≢◌, ◌⊎◌, inl, inr}
use Prim.Native.Nat.{ℕ, ◌≤◌, ◌<◌}
use native.Mathlib.Omega.{arith}
use Rattle.cube.specs.declared.Cube.{Cube}
use Rattle.cube.specs.Cubes.{differing_number}
use Rattle.steps.specs.declared.StepRefusal.{StepRefusal}
use Rattle.steps.specs.Effects.{TwoPlaces, TwoRefused, outside, same, unfit, DropUnfit, unequal, JoinUnfit, not_one, TurnUnfit, not_two, agree}
use Rattle.shared.specs.declared.Shared.{Shared}
use Rattle.shared_steps.specs.Effects.{Unlike, by_cubes_lem, by_outputs, MergeUnfit, cubes_differ, outputs_equal, TurnFits}

pub record Sole (Unfit : StepRefusal → Type 0) (Fit : Type 0) : Type 0 where
  pub once : (r s : StepRefusal) → Unfit r → Unfit s → r ≡ s
  pub never : (r : StepRefusal) → Unfit r → Fit → ⊥

-- ---- the places, and then the products

module _ (count i j : ℕ) (Unfit : StepRefusal → Type 0) (Fit : Type 0) (sole : Sole Unfit Fit) where
  within : (count ≤ i) ⊎ (count ≤ j) → i < count → j < count → ⊥
  within (inl h) p q = omega arith
  within (inr h) p q = omega arith

  two_once : (r s : StepRefusal) → TwoRefused count i j Unfit r → TwoRefused count i j Unfit s → r ≡ s
  two_once r s (outside h) (outside k) = refl
  two_once r s (outside h) (same k e) = absurd (within h k (omega arith))
  two_once r s (outside h) (unfit p k) = absurd (within h p.first p.second)
  two_once r s (same h e) (outside k) = absurd (within k h (omega arith))
  two_once r s (same h e) (same k f) = refl
  two_once r s (same h e) (unfit p k) = absurd (p.unlike e)
  two_once r s (unfit p h) (outside k) = absurd (within k p.first p.second)
  two_once r s (unfit p h) (same k e) = absurd (p.unlike e)
  two_once r s (unfit p h) (unfit q k) = sole.once r s h k

  two_never : (r : StepRefusal) → TwoRefused count i j Unfit r → TwoPlaces count i j × Fit → ⊥
  two_never r (outside h) f = within h f.0.first f.0.second
  two_never r (same h e) f = f.0.unlike e
  two_never r (unfit p h) f = sole.never r h f.1

  pub two_sole : Sole (TwoRefused count i j Unfit) (TwoPlaces count i j × Fit)
  two_sole = record { once = two_once; never = two_never }

-- the cubes, and then the outputs
module _ (a b : Shared) (Unfit : StepRefusal → Type 0) (Fit : Type 0) (sole : Sole Unfit Fit) where
  unlike_once : (r s : StepRefusal) → Unlike Unfit Fit a b r → Unlike Unfit Fit a b s → r ≡ s
  unlike_once r s (by_cubes_lem h) (by_cubes_lem k) = sole.once r s h k
  unlike_once r s (by_cubes_lem h) (by_outputs f ne) = absurd (sole.never r h f)
  unlike_once r s (by_outputs f ne) (by_cubes_lem k) = absurd (sole.never s k f)
  unlike_once r s (by_outputs f ne) (by_outputs g nf) = refl

  unlike_never : (r : StepRefusal) → Unlike Unfit Fit a b r → Fit × (a.outputs ≡ b.outputs) → ⊥
  unlike_never r (by_cubes_lem h) f = sole.never r h f.0
  unlike_never r (by_outputs g ne) f = ne f.1

  pub unlike_sole : Sole (Unlike Unfit Fit a b) (Fit × (a.outputs ≡ b.outputs))
  unlike_sole = record { once = unlike_once; never = unlike_never }

-- ---- the cubes of each step

module _ (n : ℕ) (c d : Cube) where
  drop_once : (r s : StepRefusal) → DropUnfit n c d r → DropUnfit n c d s → r ≡ s
  drop_once r s (unequal h) (unequal k) = refl

  drop_never : (r : StepRefusal) → DropUnfit n c d r → differing_number n c d ≡ 0 → ⊥
  drop_never r (unequal h) f = h f

  pub drop_sole : Sole (DropUnfit n c d) (differing_number n c d ≡ 0)
  drop_sole = record { once = drop_once; never = drop_never }

  join_once : (r s : StepRefusal) → JoinUnfit n c d r → JoinUnfit n c d s → r ≡ s
  join_once r s (not_one h) (not_one k) = refl

  join_never : (r : StepRefusal) → JoinUnfit n c d r → differing_number n c d ≡ 1 → ⊥
  join_never r (not_one h) f = h f

  pub join_sole : Sole (JoinUnfit n c d) (differing_number n c d ≡ 1)
  join_sole = record { once = join_once; never = join_never }

  turn_once : (v : ℕ) (r s : StepRefusal) → TurnUnfit n v c d r → TurnUnfit n v c d s → r ≡ s
  turn_once v r s (not_two h) (not_two k) = refl
  turn_once v r s (not_two h) (agree e k) = absurd (h e)
  turn_once v r s (agree e h) (not_two k) = absurd (k e)
  turn_once v r s (agree e h) (agree f k) = refl

  turn_never : (v : ℕ) (r : StepRefusal) → TurnUnfit n v c d r → TurnFits n v c d → ⊥
  turn_never v r (not_two h) f = h f.0
  turn_never v r (agree e h) f = f.1.1 (h f.1.0)

  pub turn_sole : (v : ℕ) → Sole (TurnUnfit n v c d) (TurnFits n v c d)
  turn_sole v = record { once = turn_once v; never = turn_never v }

module _ (n : ℕ) (a b : Shared) where
  merge_once : (r s : StepRefusal) → MergeUnfit n a b r → MergeUnfit n a b s → r ≡ s
  merge_once r s (cubes_differ h) (cubes_differ k) = refl
  merge_once r s (cubes_differ h) (outputs_equal k) = refl
  merge_once r s (outputs_equal h) (cubes_differ k) = refl
  merge_once r s (outputs_equal h) (outputs_equal k) = refl

  merge_never : (r : StepRefusal) → MergeUnfit n a b r → (differing_number n a.cube b.cube ≡ 0) × (a.outputs ≢ b.outputs) → ⊥
  merge_never r (cubes_differ h) f = h f.0
  merge_never r (outputs_equal h) f = f.1 h

  pub merge_sole : Sole (MergeUnfit n a b) ((differing_number n a.cube b.cube ≡ 0) × (a.outputs ≢ b.outputs))
  merge_sole = record { once = merge_once; never = merge_never }

-- What each step on shared products that is done found and what it leaves, and why one is refused. Document 02, Nine and Four; document 01, "The steps of a
-- script" and "Refusal numbers and places".
-- Assumes nothing.
use Rattle.std.specs.Prelude.{◌≡◌, ◌⊎◌, ◌≢◌, Bool, cond, ◌||◌, List, [], ◌∷◌, ℕ, ◌<◌, eqb, length}
use Rattle.std.specs.Int.Bits.{bit_xor}
use Rattle.cube.specs.declared.Cube.{Cube}
use Rattle.cube.specs.Cubes.{code, put, apart, differing_number}
use Rattle.orders.specs.Codes.{lower, higher}
use Rattle.steps.specs.declared.StepRefusal.{StepRefusal}
use Rattle.steps.specs.Moves.{step_refusal, drop_at, join_at, split_at, turn_at}
use Rattle.steps.specs.Steps.{drop, join, split, turn, L, third_at}
use Rattle.steps.specs.Effects.{TwoPlaces, TwoRefused, DropUnfit, JoinUnfit, TurnUnfit, SplitRefused, by_cubes, by_step}
use Rattle.shared.specs.declared.Shared.{Shared}
use Rattle.shared.specs.SharedRecord.{sharing, no_shared}
use Rattle.shared_steps.specs.SharedSteps.{SharedStep, plain, merge, shared_at}

-- ---- done: the list l before the step, and m after it

-- drop: equal cubes, "equal outputs"; both removed
pub record DropDone (n i j : ℕ) (l m : List Shared) : Type 0 where
  pub places : TwoPlaces (length l) i j
  pub differ : apart n (shared_at l i).cube (shared_at l j).cube ≡ []
  pub alike : (shared_at l i).outputs ≡ (shared_at l j).outputs
  pub list : m ≡ drop_at no_shared l i j

-- join: the cubes differ in exactly one variable, v, "equal outputs"; i gets the third there, with these outputs; j removed
pub record JoinDone (n i j : ℕ) (l m : List Shared) : Type 0 where
  pub places : TwoPlaces (length l) i j
  pub v : ℕ
  pub differ : apart n (shared_at l i).cube (shared_at l j).cube ≡ v ∷ []
  pub alike : (shared_at l i).outputs ≡ (shared_at l j).outputs
  pub list : m ≡ join_at no_shared l i j (sharing (shared_at l i).outputs (third_at (shared_at l i).cube (shared_at l j).cube v))

-- split: room for one more; of the two codes that i does not have at v, the lower stays at i, the higher is appended; "a split gives both halves i's" outputs
pub record SplitDone (cap v i : ℕ) (l m : List Shared) : Type 0 where
  pub place : i < length l
  pub room : length l < cap
  pub list : m ≡ split_at l i (sharing (shared_at l i).outputs (put (shared_at l i).cube v (lower (code (shared_at l i).cube v))))
      (sharing (shared_at l i).outputs (put (shared_at l i).cube v (higher (code (shared_at l i).cube v))))

-- turn: the cubes differ in exactly two variables, v one of them, u the other, "equal outputs"; i gets the third at v, j the third at u, with these outputs
pub record TurnDone (n v i j : ℕ) (l m : List Shared) : Type 0 where
  pub places : TwoPlaces (length l) i j
  pub u : ℕ
  pub differ : (apart n (shared_at l i).cube (shared_at l j).cube ≡ v ∷ u ∷ []) ⊎ (apart n (shared_at l i).cube (shared_at l j).cube ≡ u ∷ v ∷ [])
  pub alike : (shared_at l i).outputs ≡ (shared_at l j).outputs
  pub list : m ≡ turn_at l i j (sharing (shared_at l i).outputs (third_at (shared_at l i).cube (shared_at l j).cube v))
      (sharing (shared_at l i).outputs (third_at (shared_at l j).cube (shared_at l i).cube u))

-- merge: "two equal cubes with different outputs"; "into place i with the EXOR of the outputs", "removes j"
pub record MergeDone (n i j : ℕ) (l m : List Shared) : Type 0 where
  pub places : TwoPlaces (length l) i j
  pub differ : apart n (shared_at l i).cube (shared_at l j).cube ≡ []
  pub unlike : (shared_at l i).outputs ≢ (shared_at l j).outputs
  pub list : m ≡ join_at no_shared l i j (sharing (bit_xor (shared_at l i).outputs (shared_at l j).outputs) (shared_at l i).cube)

-- ---- refused, by a number and with a third answer; a and b are the products at i and j as they stand before the step

-- the cubes are not as the step needs, by 16 to 19; or they are, and 22: "outputs that must be equal and aren't, after 16 to 19"
pub data Unlike (Unfit : StepRefusal → Type 0) (Fit : Type 0) (a b : Shared) : StepRefusal → Type 0 where
  by_cubes_lem : {r : StepRefusal} → Unfit r → Unlike Unfit Fit a b r
  by_outputs : Fit → a.outputs ≢ b.outputs → Unlike Unfit Fit a b (step_refusal 22)

-- 23: "a merge whose cubes differ or whose outputs are equal"
pub data MergeUnfit (n : ℕ) (a b : Shared) : StepRefusal → Type 0 where
  cubes_differ : differing_number n a.cube b.cube ≢ 0 → MergeUnfit n a b (step_refusal 23)
  outputs_equal : a.outputs ≡ b.outputs → MergeUnfit n a b (step_refusal 23)

-- the cubes of a turn are as it needs
abbrev pub TurnFits : ℕ → ℕ → Cube → Cube → Type 0
TurnFits n v c d = (differing_number n c d ≡ 2) × ((v < n) × (code c v ≢ code d v))

-- why a step on the list l, with room for cap products, is refused; L never is
abbrev pub SharedStepRefused : ℕ → ℕ → SharedStep → List Shared → StepRefusal → Type 0
SharedStepRefused n cap (plain (drop i j)) l r =
    TwoRefused (length l) i j (Unlike (DropUnfit n (shared_at l i).cube (shared_at l j).cube) (differing_number n (shared_at l i).cube (shared_at l j).cube ≡ 0) (shared_at l i) (shared_at l j)) r
SharedStepRefused n cap (plain (join i j)) l r =
    TwoRefused (length l) i j (Unlike (JoinUnfit n (shared_at l i).cube (shared_at l j).cube) (differing_number n (shared_at l i).cube (shared_at l j).cube ≡ 1) (shared_at l i) (shared_at l j)) r
SharedStepRefused n cap (plain (split v i)) l r = SplitRefused (length l) cap i r
SharedStepRefused n cap (plain (turn v i j)) l r =
    TwoRefused (length l) i j (Unlike (TurnUnfit n v (shared_at l i).cube (shared_at l j).cube) (TurnFits n v (shared_at l i).cube (shared_at l j).cube) (shared_at l i) (shared_at l j)) r
SharedStepRefused n cap (plain (L v b)) l r = ⊥
SharedStepRefused n cap (merge i j) l r = TwoRefused (length l) i j (MergeUnfit n (shared_at l i) (shared_at l j)) r

-- the numbers that a step on shared products is refused by: those of a step on cubes, 22 and 23
abbrev pub by_shared : ℕ → Bool
by_shared number = by_step number || (eqb number 22 || eqb number 23)

-- the number of differing variables of a step's two cubes
abbrev pub shared_differing : ℕ → SharedStep → List Shared → ℕ
shared_differing n (plain (drop i j)) l = differing_number n (shared_at l i).cube (shared_at l j).cube
shared_differing n (plain (join i j)) l = differing_number n (shared_at l i).cube (shared_at l j).cube
shared_differing n (plain (split v i)) l = 0
shared_differing n (plain (turn v i j)) l = differing_number n (shared_at l i).cube (shared_at l j).cube
shared_differing n (plain (L v b)) l = 0
shared_differing n (merge i j) l = 0

-- the third answer of a step that is refused by a number: "the number of differing variables" at 16 to 19 (document 02, Four), and of every other, 22 and 23
-- among them, 0
abbrev pub shared_third : ℕ → SharedStep → List Shared → ℕ → ℕ
shared_third n x l number = cond (by_cubes number) (shared_differing n x l) 0

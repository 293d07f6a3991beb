-- What each step that is done found and what it leaves, and why one is refused. Document 01, "The steps of a script", the columns "needs" and "effect" of
-- its table, and "Refusal numbers and places"; document 02, Four.
-- Assumes nothing.
use Rattle.std.specs.Prelude.{◌≡◌, ◌⊎◌, ◌≢◌, Bool, cond, ◌&&◌, ◌||◌, List, [], ◌∷◌, ℕ, ◌≤◌, ◌<◌, eqb, leb, length}
use Rattle.cube.specs.declared.Cube.{Cube}
use Rattle.cube.specs.Cubes.{code, put, one, apart, differing_number}
use Rattle.orders.specs.Codes.{lower, higher}
use Rattle.steps.specs.declared.StepRefusal.{StepRefusal}
use Rattle.steps.specs.Moves.{step_refusal, step_refusal_with, drop_at, join_at, split_at, turn_at}
use Rattle.steps.specs.Steps.{Step, drop, join, split, turn, L, cube_at, third_at}

-- what refusals 10 and 11 leave of "a step with two cubes": i and j "below the present count", and i not j
pub record TwoPlaces (count i j : ℕ) : Type 0 where
  pub first : i < count
  pub second : j < count
  pub unlike : i ≡ j → ⊥

-- ---- done: the list l before the step, and m after it

-- drop: "equal cubes", "both removed"
pub record DropDone (n i j : ℕ) (l m : List Cube) : Type 0 where
  pub places : TwoPlaces (length l) i j
  pub differ : apart n (cube_at l i) (cube_at l j) ≡ []
  pub list : m ≡ drop_at one l i j

-- join: the cubes "differ in exactly one variable", v; "i gets the third there; j removed"
pub record JoinDone (n i j : ℕ) (l m : List Cube) : Type 0 where
  pub places : TwoPlaces (length l) i j
  pub v : ℕ
  pub differ : apart n (cube_at l i) (cube_at l j) ≡ v ∷ []
  pub list : m ≡ join_at one l i j (third_at (cube_at l i) (cube_at l j) v)

-- split: room for one more; "of the two codes that i does not have at v, the lower stays at i, the higher is appended"
pub record SplitDone (cap v i : ℕ) (l m : List Cube) : Type 0 where
  pub place : i < length l
  pub room : length l < cap
  pub list : m ≡ split_at l i (put (cube_at l i) v (lower (code (cube_at l i) v))) (put (cube_at l i) v (higher (code (cube_at l i) v)))

-- turn: the cubes "differ in exactly two variables, v one of them", u the other; "i gets the third at v; j gets the third at the other variable"
pub record TurnDone (n v i j : ℕ) (l m : List Cube) : Type 0 where
  pub places : TwoPlaces (length l) i j
  pub u : ℕ
  pub differ : (apart n (cube_at l i) (cube_at l j) ≡ v ∷ u ∷ []) ⊎ (apart n (cube_at l i) (cube_at l j) ≡ u ∷ v ∷ [])
  pub list : m ≡ turn_at l i j (third_at (cube_at l i) (cube_at l j) v) (third_at (cube_at l j) (cube_at l i) u)

-- ---- refused, by a number and with a third answer; a and b are the cubes at i and j as they stand before the step

-- a step with two cubes: 10, "a used i or j not below the present count"; 11, "i equals j"; and then what the step needs of its cubes, which `Unfit` says
pub data TwoRefused (count i j : ℕ) (Unfit : StepRefusal → Type 0) : StepRefusal → Type 0 where
  outside : (count ≤ i) ⊎ (count ≤ j) → TwoRefused count i j Unfit (step_refusal 10)
  same : i < count → i ≡ j → TwoRefused count i j Unfit (step_refusal 11)
  unfit : {r : StepRefusal} → TwoPlaces count i j → Unfit r → TwoRefused count i j Unfit r

-- 16: "drop of unequal cubes"
pub data DropUnfit (n : ℕ) (a b : Cube) : StepRefusal → Type 0 where
  unequal : differing_number n a b ≢ 0 → DropUnfit n a b (step_refusal_with 16 (differing_number n a b))

-- 17: "join, number not one"
pub data JoinUnfit (n : ℕ) (a b : Cube) : StepRefusal → Type 0 where
  not_one : differing_number n a b ≢ 1 → JoinUnfit n a b (step_refusal_with 17 (differing_number n a b))

-- 18: "turn, number not two"; 19: "turn at a variable where the cubes agree, number two"
pub data TurnUnfit (n v : ℕ) (a b : Cube) : StepRefusal → Type 0 where
  not_two : differing_number n a b ≢ 2 → TurnUnfit n v a b (step_refusal_with 18 (differing_number n a b))
  agree : differing_number n a b ≡ 2 → (v < n → code a v ≡ code b v) → TurnUnfit n v a b (step_refusal_with 19 (differing_number n a b))

-- a split: 10; 13, "split with the count at capacity"
pub data SplitRefused (count cap i : ℕ) : StepRefusal → Type 0 where
  outside : count ≤ i → SplitRefused count cap i (step_refusal 10)
  full : i < count → cap ≤ count → SplitRefused count cap i (step_refusal 13)

-- why a step on the list l, with room for cap records, is refused; L never is
abbrev pub StepRefused : ℕ → ℕ → Step → List Cube → StepRefusal → Type 0
StepRefused n cap (drop i j) l r = TwoRefused (length l) i j (DropUnfit n (cube_at l i) (cube_at l j)) r
StepRefused n cap (join i j) l r = TwoRefused (length l) i j (JoinUnfit n (cube_at l i) (cube_at l j)) r
StepRefused n cap (split v i) l r = SplitRefused (length l) cap i r
StepRefused n cap (turn v i j) l r = TwoRefused (length l) i j (TurnUnfit n v (cube_at l i) (cube_at l j)) r
StepRefused n cap (L v b) l r = ⊥

-- the numbers that a step is refused by: 16 to 19 for what its cubes are, and 10, 11, 13
abbrev pub by_cubes : ℕ → Bool
by_cubes number = leb 16 number && leb number 19

abbrev pub by_step : ℕ → Bool
by_step number = eqb number 10 || (eqb number 11 || (eqb number 13 || by_cubes number))

-- the number of differing variables of a step's two cubes
abbrev pub differing_of : ℕ → Step → List Cube → ℕ
differing_of n (drop i j) l = differing_number n (cube_at l i) (cube_at l j)
differing_of n (join i j) l = differing_number n (cube_at l i) (cube_at l j)
differing_of n (split v i) l = 0
differing_of n (turn v i j) l = differing_number n (cube_at l i) (cube_at l j)
differing_of n (L v b) l = 0

-- the third answer of a step that is refused by a number: "the number of differing variables" at 16 to 19; "In every other refusal the third answer is 0"
abbrev pub third_answer : ℕ → Step → List Cube → ℕ → ℕ
third_answer n x l number = cond (by_cubes number) (differing_of n x l) 0

-- ---- the steps that rewrite a list: all but L, which "changes the function"
abbrev pub IsRewrite : Step → Type 0
IsRewrite (drop i j) = Unit {0}
IsRewrite (join i j) = Unit {0}
IsRewrite (split v i) = Unit {0}
IsRewrite (turn v i j) = Unit {0}
IsRewrite (L v b) = ⊥

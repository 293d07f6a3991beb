-- A script without the pairs of steps that undo each other. Document 02, Eleven: "it removes the first pair from the front that is two equal L steps or two
-- equal turns in a row, or a split followed at once by the join of its place with the place just appended, named in that order; and it starts again at the front
-- until none is left. It takes the given count and counts along, never below zero."
-- Assumes nothing.
use Rattle.std.specs.Prelude.{◌≡◌, Bool, false, cond, ◌&&◌, List, [], ◌∷◌, ℕ, zero, suc, ◌+◌, ◌-◌, ◌*◌, eqb, length}
use Rattle.steps.specs.declared.StepRecord.{StepRecord}
use Rattle.steps.specs.Steps.{Step, drop, join, split, turn, L, is_split, is_join, is_drop}
use Rattle.script.specs.Scripts.{record_of}

-- "equal": in every field
unfoldable pub equal_records : StepRecord → StepRecord → Bool
equal_records r s =
    eqb r.op s.op && (eqb r.v s.v && (eqb r.i s.i && (eqb r.j s.j && (eqb r.literal s.literal && eqb r.zero s.zero))))

abbrev pub equal_steps : Step → Step → Bool
equal_steps x y = equal_records (record_of x) (record_of y)

-- "two equal L steps or two equal turns in a row, or a split followed at once by the join of its place with the place just appended, named in that order": the
-- place just appended is the count before the split
unfoldable pub step_pair : ℕ → Step → Step → Bool
step_pair count (drop i j) y = false
step_pair count (join i j) y = false
step_pair count (split v i) y = equal_steps (join i count) y
step_pair count (turn v i j) y = equal_steps (turn v i j) y
step_pair count (L v b) y = equal_steps (L v b) y

-- so these are the pairs, and no others (`pair_is`, `is_pair`)
pub data Pair (count : ℕ) : Step → Step → Type 0 where
  two_l : {v b : ℕ} → Pair count (L v b) (L v b)
  two_turns : {v i j : ℕ} → Pair count (turn v i j) (turn v i j)
  split_and_join : {v i : ℕ} → Pair count (split v i) (join i count)

-- "counts along, never below zero": a split adds one, a join takes one, a drop two; `◌-◌` stops at zero
unfoldable pub count_after : ℕ → Step → ℕ
count_after count x = count + is_split x - is_join x - 2 * is_drop x

-- along all steps of a list
unfoldable pub count_along : ℕ → List Step → ℕ
count_along count [] = count
count_along count (x ∷ xs) = count_along (count_after count x) xs

-- "it removes the first pair from the front"; unchanged where there is none
unfoldable pub without_first : ℕ → List Step → List Step
without_first count [] = []
without_first count (x ∷ []) = x ∷ []
without_first count (x ∷ y ∷ xs) = cond (step_pair count x y) xs (x ∷ without_first (count_after count x) (y ∷ xs))

-- "none is left"
unfoldable pub NoPair : ℕ → List Step → Type 0
NoPair count [] = Unit {0}
NoPair count (x ∷ []) = Unit {0}
NoPair count (x ∷ y ∷ xs) = (step_pair count x y ≡ false) × NoPair (count_after count x) (y ∷ xs)

-- "it starts again at the front", so many times
unfoldable pub again : ℕ → ℕ → List Step → List Step
again zero count xs = xs
again (suc m) count xs = again m count (without_first count xs)

-- "until none is left": a removal takes two steps, so that none is left after as many starts as there are steps (`none_left`)
unfoldable pub compacted : ℕ → List Step → List Step
compacted count xs = again (length xs) count xs

-- A step is a decision, and then a change of the list: what is written where, for any kind of record. Document 01, "The steps of a script"; document 02, Four.
-- Assumes nothing.
use Rattle.std.specs.Prelude.{ℕ, min, max, List, [], ◌∷◌, ◌++◌, set}
use Rattle.records.specs.Places.{remove_at}
use Rattle.steps.specs.declared.StepRefusal.{StepRefusal}

-- why a step is refused: a number, and "the number of differing variables as a third answer" (document 02, Four)
abbrev pub step_refusal_with : ℕ → ℕ → StepRefusal
step_refusal_with number differing = record { number = number; differing = differing }

-- "In every other refusal the third answer is 0"
abbrev pub step_refusal : ℕ → StepRefusal
step_refusal number = step_refusal_with number 0

-- what is decided: refused; both removed; one record for two; two for one; two for two
pub data Move (A : Type 0) : Type 0 where
  refuse : StepRefusal → Move A
  drops : Move A
  joins : A → Move A
  splits : A → A → Move A
  turns : A → A → Move A

-- what comes of it: refused, or the next list
pub data After (A : Type 0) : Type 0 where
  stop : StepRefusal → After A
  next : List A → After A

module _ {A : Type 0} (d : A) where
  -- "both removed"; "Drop removes the greater place first"
  unfoldable pub drop_at : List A → ℕ → ℕ → List A
  drop_at l i j = remove_at d (remove_at d l (max i j)) (min i j)

  -- "Join writes i first and then removes j"
  unfoldable pub join_at : List A → ℕ → ℕ → A → List A
  join_at l i j x = remove_at d (set l i x) j

-- one "stays at i", the other "is appended"
unfoldable pub split_at : {A : Type 0} → List A → ℕ → A → A → List A
split_at l i x y = set l i x ++ (y ∷ [])

-- one is written at i, the other at j
unfoldable pub turn_at : {A : Type 0} → List A → ℕ → ℕ → A → A → List A
turn_at l i j x y = set (set l i x) j y

-- the move made at places i and j
unfoldable pub applied : {A : Type 0} → A → ℕ → ℕ → List A → Move A → After A
applied d i j l (refuse r) = stop r
applied d i j l drops = next (drop_at d l i j)
applied d i j l (joins x) = next (join_at d l i j x)
applied d i j l (splits x y) = next (split_at l i x y)
applied d i j l (turns x y) = next (turn_at l i j x y)

-- a move of records, as one of those that carry them
abbrev pub map_move : {A B : Type 0} → (A → B) → Move A → Move B
map_move f (refuse r) = refuse r
map_move f drops = drops
map_move f (joins x) = joins (f x)
map_move f (splits x y) = splits (f x) (f y)
map_move f (turns x y) = turns (f x) (f y)

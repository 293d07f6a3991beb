-- A step written out: its name, and the fields that it uses, in the order of document 01's table, "The steps of a script". Document 01 writes "join 1 2".
-- Assumes nothing.
use Rattle.std.specs.Prelude.{List, [], ◌∷◌, ◌++◌, ℕ}
use Rattle.steps.specs.Steps.{Step, drop, join, split, turn, L}
use Rattle.text.specs.Numbers.{decimal}

-- the names, letter by letter
abbrev pub drop_word : List ℕ
drop_word = 100 ∷ 114 ∷ 111 ∷ 112 ∷ []

abbrev pub join_word : List ℕ
join_word = 106 ∷ 111 ∷ 105 ∷ 110 ∷ []

abbrev pub split_word : List ℕ
split_word = 115 ∷ 112 ∷ 108 ∷ 105 ∷ 116 ∷ []

abbrev pub turn_word : List ℕ
turn_word = 116 ∷ 117 ∷ 114 ∷ 110 ∷ []

abbrev pub l_word : List ℕ
l_word = 76 ∷ []

-- what stands before the number of a variable: x2 is variable 2
abbrev pub variable_lead : List ℕ
variable_lead = 120 ∷ []

-- a space, a lead and a number
abbrev pub field_text : List ℕ → ℕ → List ℕ
field_text lead x = 32 ∷ (lead ++ decimal x)

unfoldable pub step_text : Step → List ℕ
step_text (drop i j) = drop_word ++ (field_text [] i ++ field_text [] j)
step_text (join i j) = join_word ++ (field_text [] i ++ field_text [] j)
step_text (split v i) = split_word ++ (field_text variable_lead v ++ field_text [] i)
step_text (turn v i j) = turn_word ++ (field_text variable_lead v ++ (field_text [] i ++ field_text [] j))
step_text (L v b) = l_word ++ (field_text variable_lead v ++ field_text [] b)

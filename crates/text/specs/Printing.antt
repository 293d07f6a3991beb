-- What the functions that print the parts of a step promise. The text of a step is `Steps.antt`'s.
-- Assumes nothing.
use Rattle.std.specs.Prelude.{Bool, true, false, cond, List, [], ℕ, eqb, ltb}
use Rattle.text.specs.Steps.{drop_word, join_word, split_word, turn_word, l_word, field_text}

-- the word of a record's operation
unfoldable pub word_of : ℕ → List ℕ
word_of op = cond (ltb op 2) drop_word (cond (eqb op 2) join_word (cond (eqb op 3) split_word (cond (eqb op 4) turn_word l_word)))

-- a field where it is used
unfoldable pub field_if : Bool → List ℕ → ℕ → List ℕ
field_if true lead x = field_text lead x
field_if false lead x = []

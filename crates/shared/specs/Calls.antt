-- The calls on a list of shared products: what they answer. Document 02, Nine; document 01, "Refusal numbers and places".
-- Assumes nothing.
use Rattle.std.specs.Prelude.{List, [], ◌∷◌, ℕ, ◌/◌, ◌%◌, ◌^◌, leb, ltb, eqb, length, Result}
use Rattle.records.specs.declared.Refusal.{Refusal}
use Rattle.records.specs.Answers.{Outcome, accepted, unless, unless_at, and_then, outcome_of}
use Rattle.cube.specs.Lists.{most_variables, most_records}
use Rattle.shared.specs.SharedRecord.{shared_width, shares_of, fine}
use Rattle.shared.specs.Outputs.{value_word}

-- check: 1 to 4; "refusal 2 go[es] by 12 bytes", "4 also for zero outputs"
unfoldable pub check_shared : ℕ → List ℕ → Outcome
check_shared n b =
    unless (leb n most_variables) 1 0
    (unless (eqb (length b % shared_width) 0) 2 0
    (unless (leb (length b / shared_width) most_records) 3 0
    (unless_at (fine n) 4 (shares_of b)
    (accepted (length (shares_of b) ∷ [])))))

-- value: 1 to 4, 6; what is refused of it
unfoldable pub check_shared_at : ℕ → List ℕ → ℕ → Outcome
check_shared_at n b a = and_then (check_shared n b) (unless (ltb a (2 ^ n)) 6 0 (accepted (length (shares_of b) ∷ [])))

-- "the value call answers all 32 as one word"
unfoldable pub word_outcome : ℕ → List ℕ → ℕ → Outcome
word_outcome n b a = and_then (check_shared_at n b a) (accepted (value_word n (shares_of b) a ∷ []))

-- document 01's number and values for each case of the value call's answer
abbrev pub worded : Result ℕ Refusal → Outcome
worded = outcome_of (λ w. w ∷ [])

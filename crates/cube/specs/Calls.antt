-- The calls on lists: what they answer. Document 01, "Refusal numbers and places": the chains below read like its paragraph "Order".
-- Assumes nothing.
use Rattle.std.specs.Prelude.{List, [], ◌∷◌, ◌++◌, ℕ, ◌/◌, ◌%◌, ◌^◌, leb, ltb, eqb, length, drop, Result}
use Rattle.records.specs.declared.Refusal.{Refusal}
use Rattle.records.specs.Answers.{Outcome, accepted, unless, unless_at, and_then, after_call, outcome_of}
use Rattle.records.specs.Records.{Codec, list_of}
use Rattle.cube.specs.declared.Cube.{Cube}
use Rattle.cube.specs.declared.ValueAt.{ValueAt}
use Rattle.cube.specs.Cubes.{good}
use Rattle.cube.specs.Lists.{most_variables, vector_variables, most_records, cubes, cubes_of, trues, list_value, truth_vector}

-- 2 to 4, of a list of this kind of record; 4 is "a bad record", at "the lowest record that breaks the rule"
abbrev pub check_records : Codec Cube → ℕ → List ℕ → Outcome
check_records C n b =
    unless (eqb (length b % C.width) 0) 2 0
    (unless (leb (length b / C.width) most_records) 3 0
    (unless_at (good n) 4 (list_of C b)
    (accepted (length (list_of C b) ∷ []))))

-- "Checking a list: 1 to 4", for a call that takes lists of this kind of record and up to `limit` variables
unfoldable pub check_list_of : Codec Cube → ℕ → ℕ → List ℕ → Outcome
check_list_of C limit n b = unless (leb n limit) 1 0 (check_records C n b)

-- "Capacity and refusal 2 go by 8 bytes" (document 02, Seven)
abbrev pub check_list : ℕ → ℕ → List ℕ → Outcome
check_list limit n b = check_list_of cubes limit n b

-- "Value: 1 to 4, 6": what is refused of it, and of every call on a list and an assignment
unfoldable pub check_at : ℕ → List ℕ → ℕ → Outcome
check_at n b a = and_then (check_list most_variables n b) (unless (ltb a (2 ^ n)) 6 0 (accepted (length (cubes_of b) ∷ [])))

-- "value, the bit"; "the value call also answers with the number of true products" (document 02, One)
unfoldable pub value_outcome : ℕ → List ℕ → ℕ → Outcome
value_outcome n b a = and_then (check_at n b a) (accepted (list_value n (cubes_of b) a ∷ trues n (cubes_of b) a ∷ []))

-- "Truth vector of a list: 1 to 4, 5 (2^n bytes)", into a buffer of so many bytes
unfoldable pub vector_outcome : ℕ → List ℕ → ℕ → Outcome
vector_outcome n b room = and_then (check_list vector_variables n b) (unless (leb (2 ^ n) room) 5 0 (accepted (2 ^ n ∷ [])))

-- the buffer after it: "Other calls write the bytes they name and no more"
unfoldable pub vector_after : ℕ → List ℕ → List ℕ → List ℕ
vector_after n b out = after_call (vector_outcome n b (length out)) (truth_vector n (cubes_of b) ++ drop (2 ^ n) out) out

-- document 01's number and values for each case of the value call's answer
abbrev pub valued : Result ValueAt Refusal → Outcome
valued = outcome_of (λ a. a.bit ∷ a.trues ∷ [])

-- The call `write_kronecker`: what it answers and leaves. Document 02, Ten: "Refusals: those of Six, with 1 at n above 6."
-- Assumes nothing.
use Rattle.std.specs.Prelude.{List, [], ◌∷◌, ℕ, leb, length, Result}
use Rattle.kronecker.specs.declared.WrittenKronecker.{WrittenKronecker}
use Rattle.records.specs.declared.Refusal.{Refusal}
use Rattle.records.specs.Answers.{Outcome, accepted, unless, and_then, after_call, outcome_of}
use Rattle.records.specs.Records.{written}
use Rattle.cube.specs.Lists.{cubes, cube_capacity}
use Rattle.polarity.specs.Cost.{cost}
use Rattle.polarity.specs.Vectors.{byte_at, check_vector}
use Rattle.kronecker.specs.Choices.{best_choice, kronecker_list}

-- "for at most 6 variables"
abbrev pub kronecker_variables : ℕ
kronecker_variables = 6

-- 1, 14, 5 (capacity at least its count); "Answer the least cost and, among those, the smallest choice", then the products of the list
unfoldable pub kronecker_outcome : ℕ → List ℕ → ℕ → Outcome
kronecker_outcome n l room =
    unless (leb n kronecker_variables) 1 0
    (and_then (check_vector n l)
    (unless (leb (length (kronecker_list n (byte_at l))) (cube_capacity room)) 5 0
    (accepted (cost (kronecker_list n (byte_at l)) ∷ best_choice n (byte_at l) ∷ length (kronecker_list n (byte_at l)) ∷ []))))

-- the buffer after it: "Other calls write the bytes they name and no more"
unfoldable pub kronecker_after : ℕ → List ℕ → List ℕ → List ℕ
kronecker_after n l out = after_call (kronecker_outcome n l (length out)) (written cubes 0 (kronecker_list n (byte_at l)) out) out

-- document 02's values for each case of the answer
abbrev pub kronecker_listed : Result WrittenKronecker Refusal → Outcome
kronecker_listed = outcome_of (λ a. a.cost ∷ a.choice ∷ a.products ∷ [])

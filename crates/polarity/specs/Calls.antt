-- The calls on vectors: what they answer and leave. Document 01, "Refusal numbers and places": the chains below read like its paragraph "Order".
-- Assumes nothing.
use Rattle.std.specs.Prelude.{List, [], ◌∷◌, ◌++◌, ℕ, ◌^◌, leb, ltb, length, drop, Result}
use Rattle.records.specs.declared.Refusal.{Refusal}
use Rattle.records.specs.Answers.{Outcome, accepted, unless, and_then, after_call, outcome_of}
use Rattle.records.specs.Records.{written}
use Rattle.cube.specs.Lists.{cubes, cube_capacity}
use Rattle.polarity.specs.declared.BestPolarity.{BestPolarity}
use Rattle.polarity.specs.Forms.{form_from, size, best_polarity}
use Rattle.polarity.specs.Vectors.{byte_at, check_vector, coefficient_vector, vector_back}

-- "Coefficients, and back: 1, 14, 15, 5", into a buffer of so many bytes; "Accepted, .. coefficients, either way, 2^n"
unfoldable pub coefficients_outcome : ℕ → List ℕ → ℕ → ℕ → Outcome
coefficients_outcome n l p room = and_then (check_vector n l) (unless (ltb p (2 ^ n)) 15 0 (unless (leb (2 ^ n) room) 5 0 (accepted (2 ^ n ∷ []))))

-- the buffer after it: "Other calls write the bytes they name and no more"
unfoldable pub coefficients_after : ℕ → List ℕ → ℕ → List ℕ → List ℕ
coefficients_after n l p out = after_call (coefficients_outcome n l p (length out)) (coefficient_vector n p l ++ drop (2 ^ n) out) out

unfoldable pub back_after : ℕ → List ℕ → ℕ → List ℕ → List ℕ
back_after n l p out = after_call (coefficients_outcome n l p (length out)) (vector_back n p l ++ drop (2 ^ n) out) out

-- "Writing a form's list from its coefficients: 1, 14, 15, 5 (capacity at least its count)"; "writing a form, its count"
unfoldable pub form_outcome : ℕ → List ℕ → ℕ → ℕ → Outcome
form_outcome n l p room =
    and_then (check_vector n l)
    (unless (ltb p (2 ^ n)) 15 0
    (unless (leb (length (form_from n p (byte_at l))) (cube_capacity room)) 5 0
    (accepted (length (form_from n p (byte_at l)) ∷ []))))

unfoldable pub form_after : ℕ → List ℕ → ℕ → List ℕ → List ℕ
form_after n l p out = after_call (form_outcome n l p (length out)) (written cubes 0 (form_from n p (byte_at l)) out) out

-- "Best polarity of a truth vector: 1, 14"; "best polarity, p and the size"
unfoldable pub best_outcome : ℕ → List ℕ → Outcome
best_outcome n l =
    and_then (check_vector n l) (accepted (best_polarity n (byte_at l) ∷ size n (best_polarity n (byte_at l)) (byte_at l) ∷ []))

-- document 01's number and values for each case of the best polarity's answer
abbrev pub found : Result BestPolarity Refusal → Outcome
found = outcome_of (λ a. a.polarity ∷ a.products ∷ [])

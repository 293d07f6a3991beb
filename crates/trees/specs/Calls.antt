-- The call `write_tree`: what it answers and leaves. Document 02, Six: "Refusals: those of writing a form's list, without 15."
-- Assumes nothing.
use Rattle.std.specs.Prelude.{List, [], ◌∷◌, ℕ, leb, length, Result}
use Rattle.trees.specs.declared.WrittenTree.{WrittenTree}
use Rattle.records.specs.declared.Refusal.{Refusal}
use Rattle.records.specs.Answers.{Outcome, accepted, unless, and_then, after_call, outcome_of}
use Rattle.records.specs.Records.{written}
use Rattle.cube.specs.Lists.{cubes, cube_capacity}
use Rattle.polarity.specs.Cost.{cost}
use Rattle.polarity.specs.Vectors.{byte_at, check_vector}
use Rattle.trees.specs.Least.{tree_list}

-- 1, 14, 5 (capacity at least its count); "Write its list, answering its products and cost"
unfoldable pub tree_outcome : ℕ → List ℕ → ℕ → Outcome
tree_outcome n l room =
    and_then (check_vector n l)
    (unless (leb (length (tree_list n (byte_at l))) (cube_capacity room)) 5 0
    (accepted (length (tree_list n (byte_at l)) ∷ cost (tree_list n (byte_at l)) ∷ [])))

-- the buffer after it: "Other calls write the bytes they name and no more"
unfoldable pub tree_after : ℕ → List ℕ → List ℕ → List ℕ
tree_after n l out = after_call (tree_outcome n l (length out)) (written cubes 0 (tree_list n (byte_at l)) out) out

-- document 02's values for each case of the answer
abbrev pub listed : Result WrittenTree Refusal → Outcome
listed = outcome_of (λ a. a.products ∷ a.cost ∷ [])

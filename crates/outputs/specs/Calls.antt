-- The list of one output of a list of shared products, and a list as shared products of one output: what the calls answer and leave.
-- Assumes nothing.
use Rattle.std.specs.Prelude.{List, [], ◌∷◌, map, ℕ, ◌*◌, ◌/◌, ◌^◌, leb, ltb, length}
use Rattle.records.specs.Answers.{Outcome, accepted, unless, after_call}
use Rattle.records.specs.Records.{written}
use Rattle.cube.specs.Lists.{record_width, cubes, cubes_of}
use Rattle.shared.specs.SharedRecord.{sharing, shared_width, shares, shares_of}
use Rattle.shared.specs.Outputs.{carrying, output_count}

-- list_of: 5 where the output is shorter than 8 bytes for each record of the list, whether or not it carries bit k; accepted, the number of those that do
unfoldable pub list_outcome : ℕ → List ℕ → ℕ → Outcome
list_outcome k b room =
    unless (leb (record_width * (length b / shared_width)) room) 5 0
    (accepted (length (carrying k (shares_of b)) ∷ []))

-- the buffer after it: the cubes of "the products that carry bit k", in their order at its front, and every other byte as it was
unfoldable pub list_after : ℕ → List ℕ → List ℕ → List ℕ
list_after k b out = after_call (list_outcome k b (length out)) (written cubes 0 (carrying k (shares_of b)) out) out

-- shares_of: 21 where there is no output k, then 5 where the output is shorter than 12 bytes a record; accepted, the count
unfoldable pub shares_outcome : ℕ → List ℕ → ℕ → Outcome
shares_outcome k b room =
    unless (ltb k output_count) 21 0
    (unless (leb (shared_width * (length b / record_width)) room) 5 0
    (accepted (length (cubes_of b) ∷ [])))

-- the buffer after it: each cube at its place, as a product of output k alone, and every other byte as it was
unfoldable pub shares_after : ℕ → List ℕ → List ℕ → List ℕ
shares_after k b out = after_call (shares_outcome k b (length out)) (written shares 0 (map (sharing (2 ^ k)) (cubes_of b)) out) out

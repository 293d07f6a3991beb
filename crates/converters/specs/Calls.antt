-- The two converters: what they answer and leave. Document 02, Seven: "wide from narrow gives the same cubes at the same places, and narrow from wide undoes it".
-- Assumes nothing.
use Rattle.std.specs.Prelude.{List, [], ◌∷◌, ℕ, ◌*◌, leb, length}
use Rattle.records.specs.Answers.{Outcome, accepted, unless, and_then, after_call}
use Rattle.records.specs.Records.{written}
use Rattle.cube.specs.Lists.{record_width, most_variables, cubes, cubes_of}
use Rattle.cube.specs.Calls.{check_records, check_list_of}
use Rattle.converters.specs.NarrowRecord.{narrow_width, narrow_cubes, narrow_cubes_of, narrow_variables}

-- Wide from narrow: 1 to 4 of an old list, "Refusals: 1 .. above 16 for wide from narrow", 2 by 4 bytes; then "5, last, for an output too short", shorter than 8
-- bytes a record; accepted, the count
unfoldable pub wide_outcome : ℕ → List ℕ → ℕ → Outcome
wide_outcome n b room =
    and_then (check_list_of narrow_cubes narrow_variables n b)
    (unless (leb (record_width * length (narrow_cubes_of b)) room) 5 0
    (accepted (length (narrow_cubes_of b) ∷ [])))

-- the buffer after it: the same cubes at the same places, and no more bytes
unfoldable pub wide_after : ℕ → List ℕ → List ℕ → List ℕ
wide_after n b out = after_call (wide_outcome n b (length out)) (written cubes 0 (narrow_cubes_of b) out) out

-- Narrow from wide: "1 at n above 32", "narrow from wide gives 20 for n above 16, after 1 and before 2", then 2 to 4 of a list, and "5, last, for an output too
-- short", shorter than 4 bytes a record; accepted, the count
unfoldable pub narrow_outcome : ℕ → List ℕ → ℕ → Outcome
narrow_outcome n b room =
    unless (leb n most_variables) 1 0
    (unless (leb n narrow_variables) 20 0
    (and_then (check_records cubes n b)
    (unless (leb (narrow_width * length (cubes_of b)) room) 5 0
    (accepted (length (cubes_of b) ∷ [])))))

-- the buffer after it
unfoldable pub narrow_after : ℕ → List ℕ → List ℕ → List ℕ
narrow_after n b out = after_call (narrow_outcome n b (length out)) (written narrow_cubes 0 (cubes_of b) out) out

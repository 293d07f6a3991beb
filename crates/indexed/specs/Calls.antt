-- The call run with an index: what it answers, and what it leaves in its two buffers. Document 02, Eight: "A sibling of run keeps one for the work list. After
-- each step, and after the undoing, the index kept up equals the one built afresh, zeros after it; a refusal at a step zeroes it."
-- Assumes nothing.
use Rattle.std.specs.Prelude.{Bool, true, false, List, ℕ, ◌*◌, leb, length, replicate}
use Rattle.records.specs.Records.{image, zeros}
use Rattle.records.specs.Places.{place_width, places}
use Rattle.records.specs.Answers.{Outcome, accepted, refused, unless, and_then}
use Rattle.cube.specs.declared.Cube.{Cube}
use Rattle.cube.specs.Lists.{cubes_of, most_variables, cube_capacity}
use Rattle.cube.specs.Calls.{check_list}
use Rattle.steps.specs.Moves.{After, stop, next}
use Rattle.script.specs.Run.{Ran, stopped, ended}
use Rattle.script.specs.Calls.{check_script, run_of, ran_outcome, work_after}
use Rattle.index.specs.Index.{group_count, list_index, list_starts}

-- "5 for an index buffer shorter than 2 bytes a record (in the run, of work capacity, after the work's 5)": 1 to 5, 5, then 7, 8, 9
unfoldable pub check_indexed : ℕ → List ℕ → List ℕ → ℕ → ℕ → Outcome
check_indexed n list script room index_room =
    and_then (check_list most_variables n list)
    (unless (leb (length (cubes_of list)) (cube_capacity room)) 5 0
    (unless (leb (place_width * cube_capacity room) index_room) 5 0
    (check_script n script)))

-- it answers what run answers
unfoldable pub indexed_outcome : ℕ → List ℕ → List ℕ → ℕ → ℕ → Outcome
indexed_outcome n list script room index_room = and_then (check_indexed n list script room index_room) (ran_outcome (run_of n list script room))

-- and leaves in the work buffer what run leaves
unfoldable pub indexed_work : ℕ → List ℕ → List ℕ → List ℕ → ℕ → List ℕ
indexed_work n list script work index_room = work_after (check_indexed n list script (length work) index_room) work (run_of n list script (length work))

-- "After each step .. the index kept up equals the one built afresh, zeros after it; a refusal at a step zeroes it": in a buffer of so many bytes
abbrev pub index_advanced : ℕ → After Cube → List ℕ
index_advanced room (stop why) = zeros room
index_advanced room (next l) = image places room (list_index l)

-- "and after the undoing"
abbrev pub ran_index : ℕ → Ran Cube → List ℕ
ran_index room (stopped why step) = index_advanced room (stop why)
ran_index room (ended l peak) = image places room (list_index l)

-- "A refusal found before the first step writes nothing" (document 01)
abbrev pub index_after : Outcome → List ℕ → Ran Cube → List ℕ
index_after (accepted values) index r = ran_index (length index) r
index_after (refused q) index r = index

unfoldable pub indexed_index : ℕ → List ℕ → List ℕ → ℕ → List ℕ → List ℕ
indexed_index n list script room index = index_after (check_indexed n list script room (length index)) index (run_of n list script room)

-- the starts at the end, which are 0 where the run is refused
abbrev pub ran_starts : Ran Cube → List ℕ
ran_starts (stopped why step) = replicate group_count 0
ran_starts (ended l peak) = list_starts l

abbrev pub starts_after : Outcome → Ran Cube → List ℕ
starts_after (accepted values) r = ran_starts r
starts_after (refused q) r = replicate group_count 0

unfoldable pub indexed_starts : ℕ → List ℕ → List ℕ → ℕ → ℕ → List ℕ
indexed_starts n list script room index_room = starts_after (check_indexed n list script room index_room) (run_of n list script room)

-- whether it came to the steps
abbrev pub accepts : Outcome → Bool
accepts (accepted values) = true
accepts (refused r) = false

unfoldable pub begun : ℕ → List ℕ → List ℕ → ℕ → ℕ → Bool
begun n list script room index_room = accepts (check_indexed n list script room index_room)

-- The call `compact`: what it answers, and what it leaves in its output. Document 02, Eleven.
-- Assumes nothing.
use Rattle.std.specs.Prelude.{ℕ, List, [], ◌∷◌, map, leb, length}
use Rattle.records.specs.Records.{written}
use Rattle.records.specs.Answers.{Outcome, accepted, unless, and_then, after_call}
use Rattle.cube.specs.Lists.{most_variables, most_records}
use Rattle.script.specs.Scripts.{step_records, record_of, steps_of}
use Rattle.script.specs.Calls.{check_script}
use Rattle.compactor.specs.Compact.{compacted}

-- "Refusals: 1, 3 for a count above 4,096, 7, 8, 9, then 5 for an output shorter than the script"; "It answers the steps left"
unfoldable pub compact_outcome : ℕ → ℕ → List ℕ → ℕ → Outcome
compact_outcome n count script room =
    unless (leb n most_variables) 1 0
    (unless (leb count most_records) 3 0
    (and_then (check_script n script)
    (unless (leb (length script) room) 5 0
    (accepted (length (compacted count (steps_of script)) ∷ [])))))

-- the output after it: the steps left at its front; "Other calls write the bytes they name and no more" (document 01)
unfoldable pub compact_after : ℕ → ℕ → List ℕ → List ℕ → List ℕ
compact_after n count script out =
    after_call (compact_outcome n count script (length out)) (written step_records 0 (map record_of (compacted count (steps_of script))) out) out

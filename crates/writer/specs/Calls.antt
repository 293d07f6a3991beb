-- The call `write_script`: what it answers, and what it leaves in its buffers. Document 02, Three.
-- Assumes nothing.
use Rattle.std.specs.Prelude.{ℕ, ◌*◌, min, List, [], ◌∷◌, map, leb, length, Result}
use Rattle.bits.specs.Sums.{one_if}
use Rattle.writer.specs.declared.Written.{Written}
use Rattle.records.specs.declared.Refusal.{Refusal}
use Rattle.records.specs.Records.{written, image}
use Rattle.records.specs.Answers.{Outcome, accepted, unless, and_then, after_call, outcome_of}
use Rattle.cube.specs.Lists.{most_variables, cubes, cubes_of, cube_capacity}
use Rattle.cube.specs.Calls.{check_list}
use Rattle.script.specs.Scripts.{step_records, step_width, most_steps, record_of}
use Rattle.writer.specs.Easy.{easy_steps, easy_end, easy_finished}

-- "Refusals: 1 to 4, then 5 for the work buffer, then 5 for a script buffer shorter than 8 times the smaller of the count and 1,024"; "it answers the number of
-- steps and which": 1 where it has finished, else 0
unfoldable pub write_outcome : ℕ → List ℕ → ℕ → ℕ → Outcome
write_outcome n list work script =
    and_then (check_list most_variables n list)
    (unless (leb (length (cubes_of list)) (cube_capacity work)) 5 0
    (unless (leb (step_width * min (length (cubes_of list)) most_steps) script) 5 0
    (accepted (length (easy_steps n most_steps (cubes_of list)) ∷ one_if (easy_finished n most_steps (cubes_of list)) ∷ []))))

-- "The work buffer ends with the end list and zeros"
unfoldable pub write_work : ℕ → List ℕ → List ℕ → ℕ → List ℕ
write_work n list work script =
    after_call (write_outcome n list (length work) script) (image cubes (length work) (easy_end n most_steps (cubes_of list))) work

-- the script buffer after it: the steps at its front, and no other byte
unfoldable pub write_steps : ℕ → List ℕ → ℕ → List ℕ → List ℕ
write_steps n list work script =
    after_call (write_outcome n list work (length script)) (written step_records 0 (map record_of (easy_steps n most_steps (cubes_of list))) script) script

-- the number and values for each case of the answer
abbrev pub wrote : Result Written Refusal → Outcome
wrote = outcome_of (λ w. w.steps ∷ one_if w.finished ∷ [])

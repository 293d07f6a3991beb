-- The call `run`: what it answers, and what it leaves in the work buffer. Document 01, "Refusal numbers and places"; document 02, Four.
-- Assumes nothing.
use Rattle.cube.specs.declared.Cube.{Cube}
use Rattle.std.specs.Prelude.{ℕ, ◌/◌, ◌%◌, List, [], ◌∷◌, leb, eqb, length, Result}
use Rattle.script.specs.declared.Peaked.{Peaked}
use Rattle.records.specs.Records.{Codec, list_of, image, zeros}
use Rattle.records.specs.declared.Refusal.{Refusal}
use Rattle.records.specs.Answers.{Outcome, accepted, refused, refusal_with, unless, unless_at, and_then, outcome_of}
use Rattle.cube.specs.Lists.{most_variables, cubes, cubes_of, cube_capacity}
use Rattle.cube.specs.Calls.{check_list}
use Rattle.steps.specs.declared.StepRefusal.{StepRefusal}
use Rattle.steps.specs.Moves.{step_refusal_with}
use Rattle.script.specs.Run.{Ran, stopped, ended, run}
use Rattle.script.specs.Scripts.{step_records, step_width, most_steps, fits, steps_of}

-- 7, 8, and 9 at the "lowest such step": a script over n variables; accepted, it has so many steps
unfoldable pub check_script : ℕ → List ℕ → Outcome
check_script n b =
    unless (eqb (length b % step_width) 0) 7 0
    (unless (leb (length b / step_width) most_steps) 8 0
    (unless_at (fits n) 9 (list_of step_records b)
    (accepted (length (list_of step_records b) ∷ []))))

-- "Run: 1 to 5, 7, 8, 9", before any step, on any kind of list: its own check, 5 where it has more records than the work buffer has room for, and the check of
-- the script
abbrev pub check_before : Outcome → ℕ → ℕ → Outcome → Outcome
check_before list count capacity script = and_then list (unless (leb count capacity) 5 0 script)

-- on a list of cubes, in a work buffer of so many bytes
unfoldable pub check_run : ℕ → List ℕ → List ℕ → ℕ → Outcome
check_run n list script room = check_before (check_list most_variables n list) (length (cubes_of list)) (cube_capacity room) (check_script n script)

-- "then steps in turn", each 10, 11, 16 to 19 (document 02, Four), 13: the run of an accepted list and script
unfoldable pub run_of : ℕ → List ℕ → List ℕ → ℕ → Ran Cube
run_of n list script room = run n (cube_capacity room) (steps_of script) (cubes_of list)

-- a step's refusal, with the step as its place
abbrev pub at_step : StepRefusal → ℕ → Refusal
at_step why step = refusal_with why.number step why.differing

-- and back
abbrev pub of_step : Refusal → StepRefusal
of_step r = step_refusal_with r.number r.differing

abbrev pub ran_outcome : {A : Type 0} → Ran A → Outcome
ran_outcome (stopped why step) = refused (at_step why step)
ran_outcome (ended l peak) = accepted (length l ∷ peak ∷ [])

-- "run, count and peak"
unfoldable pub run_outcome : ℕ → List ℕ → List ℕ → ℕ → Outcome
run_outcome n list script room = and_then (check_run n list script room) (ran_outcome (run_of n list script room))

-- "One found at a step leaves every byte of the work buffer zero"; "An accepted run fills the front of the work buffer with its list and clears the rest"
abbrev pub ran_work_by : {A : Type 0} → Codec A → ℕ → Ran A → List ℕ
ran_work_by C room (stopped why step) = zeros room
ran_work_by C room (ended l peak) = image C room l

abbrev pub ran_work : ℕ → Ran Cube → List ℕ
ran_work room r = ran_work_by cubes room r

-- "A refusal found before the first step writes nothing"
abbrev pub work_after_by : {A : Type 0} → Codec A → Outcome → List ℕ → Ran A → List ℕ
work_after_by C (accepted values) work r = ran_work_by C (length work) r
work_after_by C (refused r) work ran = work

abbrev pub work_after : Outcome → List ℕ → Ran Cube → List ℕ
work_after o work r = work_after_by cubes o work r

unfoldable pub run_after : ℕ → List ℕ → List ℕ → List ℕ → List ℕ
run_after n list script work = work_after (check_run n list script (length work)) work (run_of n list script (length work))

-- document 01's number and values for each case of the answer
abbrev pub finished : Result Peaked Refusal → Outcome
finished = outcome_of (λ a. a.count ∷ a.peak ∷ [])

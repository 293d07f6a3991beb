-- The scripts for lists of shared products. Document 02, Nine; document 01, "The steps of a script" and "Refusal numbers and places".
-- Assumes nothing.
use Rattle.std.specs.Prelude.{Bool, cond, ◌&&◌, List, [], ◌∷◌, map, ℕ, ◌/◌, ◌%◌, eqb, leb, length}
use Rattle.records.specs.Records.{list_of}
use Rattle.records.specs.Answers.{Outcome, accepted, unless, unless_at}
use Rattle.steps.specs.declared.StepRecord.{StepRecord}
use Rattle.script.specs.Scripts.{step_records, step_width, most_steps, fits}
use Rattle.shared_steps.specs.SharedSteps.{SharedStep, merge_operation, shared_meaning}

-- a merge uses i and j: "unused field not zero"
abbrev pub merge_fits : StepRecord → Bool
merge_fits r = eqb r.v 0 && (eqb r.literal 0 && eqb r.zero 0)

-- not 9: a merge with its unused fields zero, or a step that a plain script may have
unfoldable pub shared_fits : ℕ → StepRecord → Bool
shared_fits n r = cond (eqb r.op merge_operation) (merge_fits r) (fits n r)

-- 7, 8, and 9 at the "lowest such step": a script over n variables; accepted, it has so many steps
unfoldable pub check_shared_script : ℕ → List ℕ → Outcome
check_shared_script n b =
    unless (eqb (length b % step_width) 0) 7 0
    (unless (leb (length b / step_width) most_steps) 8 0
    (unless_at (shared_fits n) 9 (list_of step_records b)
    (accepted (length (list_of step_records b) ∷ []))))

-- the steps of a script's bytes
unfoldable pub shared_steps_of : List ℕ → List SharedStep
shared_steps_of b = map shared_meaning (list_of step_records b)

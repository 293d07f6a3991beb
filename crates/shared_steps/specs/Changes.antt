-- Inside: what the functions of this crate promise one another. A step by its operation, and what is done to the work buffer.
-- Assumes nothing.
use Rattle.std.specs.Prelude.{List, ℕ, Result}
use Rattle.steps.specs.declared.StepRefusal.{StepRefusal}
use Rattle.steps.specs.Moves.{After}
use Rattle.steps.specs.Changes.{step_of, DoneBy}
use Rattle.shared.specs.declared.Shared.{Shared}
use Rattle.shared.specs.SharedRecord.{shares}
use Rattle.shared_steps.specs.declared.operation.SharedStep as operation
use Rattle.shared_steps.specs.declared.operation.SharedStep.TheVariants as shared_step_is
use Rattle.shared_steps.specs.SharedSteps.{SharedStep, plain, merge}

-- the step on shared products that a step by its operation is
abbrev pub shared_step_of : operation.SharedStep → SharedStep
shared_step_of (shared_step_is.Plain step) = plain (step_of step)
shared_step_of (shared_step_is.Merge i j) = merge i j

-- what a step does: its answer, and the buffer after it
abbrev pub SharedDone : (work work' : List ℕ) (e : After Shared) (r : Result ℕ StepRefusal) → Type 0
SharedDone = DoneBy shares

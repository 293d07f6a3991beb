-- Two outcomes that satisfy the contract of a public function of this crate are equal.
-- Assumes nothing.
use mathlib.Core.Path.{◌≡◌, refl, ap}
use mathlib.Core.List.{List}
use Prim.Native.Nat.{ℕ}
use Rattle.bits.specs.Outcomes.{Determined}
use Rattle.bits.proofs.Determined.{same, same_told}
use Rattle.steps.proofs.Determined.{operation_of, operation_known}
use Rattle.shared_steps.specs.SharedSteps.{SharedStep, plain, merge}
use Rattle.shared_steps.specs.Changes.{shared_step_of}
use Rattle.shared_steps.specs.declared.operation.SharedStep as operation
use Rattle.shared_steps.specs.declared.operation.SharedStep.TheVariants as shared_step_is
use Rattle.shared_steps.proofs.operation.SharedStepFromStepRecord.from.Kinds as from_kinds
use Rattle.shared_steps.proofs.operation.SharedStepFromStepRecord.from.Reads as from_reads
use Rattle.shared_steps.proofs.reorder.reorder.Kinds as reorder_kinds
use Rattle.shared_steps.proofs.reorder.reorder.Reads as reorder_reads
use Rattle.shared_steps.proofs.step.do_step.Kinds as do_step_kinds
use Rattle.shared_steps.proofs.step.do_step.Reads as do_step_reads

-- the step by its operation, read back
shared_operation_of : SharedStep → operation.SharedStep
shared_operation_of (plain x) = shared_step_is.Plain (operation_of x)
shared_operation_of (merge i j) = shared_step_is.Merge i j

shared_operation_known : (x : operation.SharedStep) → shared_operation_of (shared_step_of x) ≡ x
unfolding shared_operation_of
shared_operation_known (shared_step_is.Plain step) = ap shared_step_is.Plain (operation_known step)
shared_operation_known (shared_step_is.Merge i j) = refl

pub from_determined : Determined 0 from_kinds.ps from_kinds.r from_reads.Learnt
from_determined κs a z z' ws ws' p q = (same_told shared_step_of shared_operation_of shared_operation_known p q, refl)

pub reorder_determined : Determined 1 reorder_kinds.ps reorder_kinds.r reorder_reads.Learnt
reorder_determined κs a z z' ws ws' p q = (refl, ap (λ (b : List ℕ). (b, (tt, (tt, (tt, tt))))) (same p q))

pub do_step_determined : Determined 1 do_step_kinds.ps do_step_kinds.r do_step_reads.Learnt
do_step_determined κs a z z' ws ws' p q =
    (same p.0 q.0, ap (λ (b : List ℕ). (b, (tt, (tt, (tt, (tt, tt)))))) (same p.1 q.1))

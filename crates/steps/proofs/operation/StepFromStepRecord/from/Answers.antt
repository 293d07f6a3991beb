-- `steps::operation::StepFromStepRecord::from` meets its contract.
-- Assumes nothing.
use mathlib.Core.Path.{sym}
use native.Mathlib.Omega.{arith}
use Rattle.steps.proofs.Making.{means, means_drop, means_l}
use Rattle.steps.proofs.operation.StepFromStepRecord.from.Goals as goal

pub returns-in-2 : goal.returns-in-2
returns-in-2 c = sym (means c.args.x 2 c.in-2.is)

pub returns-in-3 : goal.returns-in-3
returns-in-3 c = sym (means c.args.x 3 c.in-3.is)

pub returns-in-4 : goal.returns-in-4
returns-in-4 c = sym (means c.args.x 4 c.in-4.is)

pub returns-in-0 : goal.returns-in-0
returns-in-0 c = means_drop c.args.x (omega arith)

pub returns-in_default : goal.returns-in_default
returns-in_default c = means_l c.args.x (omega arith)

-- `shared_steps::operation::SharedStepFromStepRecord::from` meets its contract.
-- Assumes nothing.
use mathlib.Core.Path.{sym, ap, ◌∙◌}
use Rattle.shared_steps.specs.SharedSteps.{plain}
use Rattle.shared_steps.proofs.Meaning.{means_merge, means_plain}
use Rattle.shared_steps.proofs.operation.SharedStepFromStepRecord.from.Goals as goal

pub returns-then-x-eq-MERGE : goal.returns-then-x-eq-MERGE
returns-then-x-eq-MERGE c = sym (means_merge c.args.x c.if-x-eq-MERGE.true)

pub returns : goal.returns
returns c = ap plain c.from.ensures ∙ sym (means_plain c.args.x c.if-x-eq-MERGE.false)

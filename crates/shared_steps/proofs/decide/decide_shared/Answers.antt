-- `shared_steps::decide::decide_shared` meets its contract.
-- Assumes nothing.
use mathlib.Core.Path.{sym, ap, ◌∙◌}
use Rattle.steps.specs.Changes.{step_of}
use Rattle.shared_steps.specs.SharedSteps.{plain}
use Rattle.shared_steps.proofs.Meaning.{no_merge, plain_known, plain_low}
use Rattle.shared_steps.proofs.decide.Deciding.{merge_decided, split_decided, alike_decided}
use Rattle.shared_steps.proofs.decide.decide_shared.Goals as goal

pub returns-in-Merge : goal.returns-in-Merge
returns-in-Merge c = merge_decided _ _ _ c.args.x _ _ _ _ _ c.in-Merge.ensures c.decide_merge.ensures

pub decide-change-requires-clause-known : goal.decide-change-requires-clause-known
decide-change-requires-clause-known c = plain_known c.args.x _ c.requires.shared_known (no_merge c.args.x _ c.in-Plain.ensures)

pub decide-change-requires-clause-op_bound : goal.decide-change-requires-clause-op_bound
decide-change-requires-clause-op_bound c = plain_low c.args.x _ c.requires.shared_known (no_merge c.args.x _ c.in-Plain.ensures) c.requires.fact

pub returns-in-Split : goal.returns-in-Split
returns-in-Split c =
    split_decided _ _ _ c.args.x _ _ _ _ c.decide-change.ensures _ _ (ap (λ y. plain (step_of y)) (sym c.in-Split.is) ∙ c.in-Plain.ensures) c.carried.ensures

pub returns-in_default : goal.returns-in_default
returns-in_default c =
    alike_decided _ _ _ c.args.x _ _ _ _ c.decide-change.ensures c.requires.shared_known c.requires.fact _ c.in-Plain.ensures c.in_default.not-Split c.of_alike.ensures

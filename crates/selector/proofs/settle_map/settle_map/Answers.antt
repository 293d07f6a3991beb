-- `settle_map::settle_map` meets its contract.
-- Assumes nothing.
use mathlib.Core.Path.{sym, ap, ◌∙◌}
use lib.ListN.{length}
use Rattle.std.specs.Prelude.{Err}
use Rattle.records.specs.Answers.{counted}
use Rattle.records.specs.Records.{zeros}
use Rattle.selector.specs.Calls.{job}
use Rattle.selector.proofs.Checks.{job_accepts}
use Rattle.selector.proofs.Left.{starts_sum}
use Rattle.selector.proofs.settle_map.Finishing.{map_refused_lem, map_settled}
use Rattle.selector.proofs.settle_map.settle_map.Goals as goal

pub settle_lists-settled-requires : goal.settle_lists-settled-requires
settle_lists-settled-requires c = job_accepts _ _ _ (sym (c.check_job.ensures _ _) ∙ ap counted c.in-Ok.is)

pub returns-in-Err : goal.returns-in-Err
returns-in-Err c = let j = job c.args.n c.args.lists.now c.args.lengths.now c.args.scripts.now c.args.script_lengths.now (length c.args.work.now) in
    map_refused_lem j c.args.work.now c.args.out.now _ (sym (c.check_job.ensures _ _) ∙ ap counted c.in-Err.is) _ (c.refused.ensures.0 ∙ ap Err c.into.ensures, c.refused.ensures.1)

pub returns-in-Ok : goal.returns-in-Ok
returns-in-Ok c = let j = job c.args.n c.args.lists.now c.args.lengths.now c.args.scripts.now c.args.script_lengths.now (length c.args.work.now) in
    map_settled j c.args.work.now c.args.out.now _ (sym (c.check_job.ensures _ _) ∙ ap counted c.in-Ok.is) _ _ _ c.settle_lists-settled.ensures
    (c.clear.ensures ∙ ap zeros c.work-1.given)

pub invariant_of-lists : goal.invariant_of-lists
invariant_of-lists c = record { fits = sym (starts_sum c.args.lengths.now) ∙ (job_accepts _ _ _ (sym (c.check_job.ensures c.args.n (length c.args.work.now)) ∙ ap counted c.in-Ok.is)).lists_are.adds }

pub invariant_of-scripts : goal.invariant_of-scripts
invariant_of-scripts c = record { fits = sym (starts_sum c.args.script_lengths.now) ∙ (job_accepts _ _ _ (sym (c.check_job.ensures c.args.n (length c.args.work.now)) ∙ ap counted c.in-Ok.is)).scripts_are }

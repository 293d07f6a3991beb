-- `lengths::check_job` meets its contract.
-- Assumes nothing.
use mathlib.Core.Path.{sym}
use native.Mathlib.Omega.{arith}
use Rattle.records.proofs.Answers.{handed_on}
use Rattle.selector.proofs.Checks.{job_refused, job_uneven, job_wrong, job_short, job_count}
use Rattle.selector.proofs.lengths.check_job.Goals as goal

pub returns-then-script_lengths-lengths : goal.returns-then-script_lengths-lengths
returns-then-script_lengths-lengths c n work = job_uneven _ _ _ (sym c.in_ok-count.ensures) _ c.at.ensures (omega arith)

pub returns-then-out-lists : goal.returns-then-out-lists
returns-then-out-lists c n work = job_short _ _ _ (sym c.in_ok-count.ensures) (omega arith) _ c.add_up.ensures c.if-add_up.true
    _ c.at-then-out-lists.ensures c.if-out-lists.true

pub returns-then-add_up : goal.returns-then-add_up
returns-then-add_up c n work = job_count _ _ _ (sym c.in_ok-count.ensures) (omega arith) _ c.add_up.ensures c.if-add_up.true
    c.if-out-lists.false

pub returns-in_err-count : goal.returns-in_err-count
returns-in_err-count c n work = handed_on _ _ _ _ c.from_residual.ensures (job_refused _ _ _ (sym c.in_err-count.ensures))

pub returns : goal.returns
returns c n work = job_wrong _ _ _ (sym c.in_ok-count.ensures) (omega arith) _ c.add_up.ensures _ c.at-2.ensures
    c.if-add_up.false

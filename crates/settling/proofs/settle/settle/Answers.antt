-- `settle::settle` meets its contract.
-- Assumes nothing.
use mathlib.Core.Path.{refl, sym}
use native.Mathlib.Omega.{arith}
use lib.Seq.{length-take-le}
use Rattle.records.proofs.Answers.{handed_on}
use Rattle.script.proofs.Outcomes.{passed}
use Rattle.settling.proofs.settle.Settling.{list_refused, room_work, work_short, out_short, run_refused, result_few, result_end, run_burns, run_settled}
use Rattle.settling.proofs.settle.settle.Goals as goal

pub returns-then-capacity-given : goal.returns-then-capacity-given
returns-then-capacity-given c =
    let r = work_short _ _ _ _ _ _ (sym c.in_ok-given.ensures) _ c.capacity.ensures c.if-capacity-given.true _ c.at.ensures in record { result_value = r.answer; work_after = r.work_is; out_after = r.out_is }

pub returns-then-capacity-given-2 : goal.returns-then-capacity-given-2
returns-then-capacity-given-2 c =
    let r = out_short _ _ _ _ _ _ (sym c.in_ok-given.ensures) _ c.capacity.ensures c.if-capacity-given.false _ c.capacity-2.ensures c.if-capacity-given-2.true _ c.at-then-capacity-given-2.ensures in record { result_value = r.answer; work_after = r.work_is; out_after = r.out_is }

pub run_checked-requires : goal.run_checked-requires
run_checked-requires c =
    let e = sym c.in_ok-given.ensures in record { accepts = passed _ _ e; list_len_bound = room_work _ _ c.args.script.now c.args.work.now c.args.out.now _ e _ c.capacity.ensures c.if-capacity-given.false }

pub overflow_mul-end : goal.overflow_mul-end
overflow_mul-end c =
    omega (
      arith,
      result_few _ _ _ _ c.args.out.now _ (sym c.in_ok-given.ensures) _ c.capacity.ensures c.if-capacity-given.false
          _ c.capacity-2.ensures c.if-capacity-given-2.false _ _ _ (c.in_ok-count.ensures.result_value) c.run_checked.ensures.work_after,
    )

pub slice_bounds-burn_best-end : goal.slice_bounds-burn_best-end
slice_bounds-burn_best-end c =
    result_end _ _ _ _ c.args.out.now _ (sym c.in_ok-given.ensures) _ c.capacity.ensures c.if-capacity-given.false
    _ c.capacity-2.ensures c.if-capacity-given-2.false _ _ _ (c.in_ok-count.ensures.result_value) c.run_checked.ensures.work_after

pub slice_bounds-burn_best-end-2 : goal.slice_bounds-burn_best-end-2
slice_bounds-burn_best-end-2 c =
    sym (length-take-le _ _ (result_end _ _ _ _ c.args.out.now _ (sym c.in_ok-given.ensures) _ c.capacity.ensures c.if-capacity-given.false
    _ c.capacity-2.ensures c.if-capacity-given-2.false _ _ _ (c.in_ok-count.ensures.result_value) c.run_checked.ensures.work_after))

pub burn_best-b-requires : goal.burn_best-b-requires
burn_best-b-requires c =
    run_burns _ _ _ _ c.args.out.now _ (sym c.in_ok-given.ensures) _ c.capacity.ensures c.if-capacity-given.false
    _ c.capacity-2.ensures c.if-capacity-given-2.false _ _ _ (c.in_ok-count.ensures.result_value) c.run_checked.ensures.work_after _ refl

pub returns-in_err-given : goal.returns-in_err-given
returns-in_err-given c =
    let r = list_refused _ _ _ _ _ _ (sym c.in_err-given.ensures) in record { result_value = handed_on _ _ _ _ c.from_residual.ensures r.answer; work_after = r.work_is; out_after = r.out_is }

pub returns-in_err-count : goal.returns-in_err-count
returns-in_err-count c =
    let r = run_refused _ _ _ _ _ _ (sym c.in_ok-given.ensures) _ c.capacity.ensures c.if-capacity-given.false _ c.capacity-2.ensures c.if-capacity-given-2.false _ _
    (c.in_err-count.ensures.result_value) c.run_checked.ensures.work_after in record { result_value = handed_on _ _ _ _ c.from_residual-in_err-count.ensures r.answer; work_after = r.work_is; out_after = r.out_is }

pub returns : goal.returns
returns c =
    let r = run_settled _ _ _ _ _ _ (sym c.in_ok-given.ensures) _ c.capacity.ensures c.if-capacity-given.false _ c.capacity-2.ensures c.if-capacity-given-2.false _ _ _
    (c.in_ok-count.ensures.result_value) c.run_checked.ensures.work_after _ refl _ _ c.burn_best-b.ensures _ c.clear.ensures c.work-1.given in record { result_value = r.answer; work_after = r.work_is; out_after = r.out_is }

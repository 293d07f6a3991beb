-- `settle::settle` meets its contract.
-- Assumes nothing.
use mathlib.Core.Path.{refl, sym, ap, ◌∙◌}
use native.Mathlib.Omega.{arith}
use lib.Seq.{length-take-le}
use Rattle.records.proofs.Answers.{handed_on}
use Rattle.records.specs.Answers.{counted}
use Rattle.script.specs.Calls.{finished}
use Rattle.script.proofs.Outcomes.{passed}
use Rattle.shared_run.proofs.settle.Settling.{list_refused, room_work, work_short, out_short, run_refused, result_few, result_end, list_whole, list_fits, front_whole, run_settled}
use Rattle.shared_run.proofs.settle.settle.Goals as goal

pub returns-then-capacity-given : goal.returns-then-capacity-given
returns-then-capacity-given c =
    let r = work_short _ _ _ _ _ _ (sym c.in_ok-given.ensures) _ c.capacity.ensures c.if-capacity-given.true _ c.at.ensures in record { result_value = r.answer; work_after = r.work_is; out_after = r.out_is }

pub returns-then-capacity-given-2 : goal.returns-then-capacity-given-2
returns-then-capacity-given-2 c =
    let r = out_short _ _ _ _ _ _ (sym c.in_ok-given.ensures) _ c.capacity.ensures c.if-capacity-given.false _ c.capacity-2.ensures (omega (arith, c.if-capacity-given-2.true)) _ c.at-then-capacity-given-2.ensures in record { result_value = r.answer; work_after = r.work_is; out_after = r.out_is }

pub run_checked-requires : goal.run_checked-requires
run_checked-requires c =
    let args = c.args in
    let e = sym c.in_ok-given.ensures in record { accepts = passed _ _ e; list_len_bound = room_work _ _ args.script.now args.work.now args.out.now _ e _ c.capacity.ensures c.if-capacity-given.false }

pub overflow_mul-end : goal.overflow_mul-end
overflow_mul-end c =
    omega (
      arith,
      result_few _ _ _ _ c.args.out.now _ (sym c.in_ok-given.ensures) _ c.capacity.ensures c.if-capacity-given.false
          _ c.capacity-2.ensures c.if-capacity-given-2.false _ _ _ (c.in_ok-count.ensures.result_value) c.run_checked.ensures.work_after,
    )

pub slice_bounds-burn-end : goal.slice_bounds-burn-end
slice_bounds-burn-end c =
    result_end _ _ _ _ c.args.out.now _ (sym c.in_ok-given.ensures) _ c.capacity.ensures c.if-capacity-given.false
    _ c.capacity-2.ensures c.if-capacity-given-2.false _ _ _ (c.in_ok-count.ensures.result_value) c.run_checked.ensures.work_after

pub slice_bounds-burn-end-2 : goal.slice_bounds-burn-end-2
slice_bounds-burn-end-2 c =
    sym (length-take-le _ _ (result_end _ _ _ _ c.args.out.now _ (sym c.in_ok-given.ensures) _ c.capacity.ensures c.if-capacity-given.false
    _ c.capacity-2.ensures c.if-capacity-given-2.false _ _ _ (c.in_ok-count.ensures.result_value) c.run_checked.ensures.work_after))

pub burn-burned-requires : goal.burn-burned-requires
burn-burned-requires c =
    let args = c.args in
    let e = sym c.in_ok-given.ensures in
    let room = c.if-capacity-given.false in
    let room₂ = c.if-capacity-given-2.false in record {
      shared_width_len = (
        list_whole _ _ args.script.now args.work.now args.out.now _ e _ c.capacity.ensures room _ c.capacity-2.ensures room₂,
        front_whole _ _ _ _ args.out.now _ e _ c.capacity.ensures room _ c.capacity-2.ensures room₂ _ _ _ (c.in_ok-count.ensures.result_value) c.run_checked.ensures.work_after _ refl,
      );
      list_in_bounds = list_fits _ _ args.script.now args.work.now args.out.now _ e _ c.capacity.ensures room _ c.capacity-2.ensures room₂;
    }

pub returns-in_err-given : goal.returns-in_err-given
returns-in_err-given c =
    let r = list_refused _ _ _ _ _ _ (sym c.in_err-given.ensures) in record { result_value = handed_on _ _ _ _ c.from_residual.ensures r.answer; work_after = r.work_is; out_after = r.out_is }

pub returns-in_err-count : goal.returns-in_err-count
returns-in_err-count c =
    let r = run_refused _ _ _ _ _ _ (sym c.in_ok-given.ensures) _ c.capacity.ensures c.if-capacity-given.false _ c.capacity-2.ensures c.if-capacity-given-2.false _ _
    (c.in_err-count.ensures.result_value) c.run_checked.ensures.work_after in record { result_value = handed_on _ _ _ _ c.from_residual-in_err-count.ensures r.answer; work_after = r.work_is; out_after = r.out_is }

pub returns : goal.returns
returns c =
    let r = run_settled _ _ _ _ _ _ (sym c.in_ok-given.ensures) _ c.capacity.ensures c.if-capacity-given.false _ c.capacity-2.ensures c.if-capacity-given-2.false _ _ _
    (c.in_ok-count.ensures.result_value) c.run_checked.ensures.work_after _ refl _ _ c.burn-burned.ensures.value c.burn-burned.ensures.out_after _ c.clear.ensures c.work-1.given in record { result_value = r.answer; work_after = r.work_is; out_after = r.out_is }

-- `lengths::check_map_reasons` meets its contract.
-- Assumes nothing.
use mathlib.Core.Path.{sym}
use Rattle.records.proofs.Answers.{handed_on}
use Rattle.selector.proofs.Checks.{map_accepts, reasons_refused, reasons_short, reasons_count}
use Rattle.selector.proofs.lengths.check_map_reasons.Goals as goal

pub count_records-requires : goal.count_records-requires
count_records-requires c = map_accepts _ _ _ (sym c.in_ok-count.ensures)

pub returns-then-out-count_records : goal.returns-then-out-count_records
returns-then-out-count_records c = reasons_short _ _ _ _ (sym c.in_ok-count.ensures) _ c.count_records.ensures _ c.at.ensures
    c.if-out-count_records.true

pub returns-in_err-count : goal.returns-in_err-count
returns-in_err-count c = handed_on _ _ _ _ c.from_residual.ensures (reasons_refused _ _ _ _ (sym c.in_err-count.ensures))

pub returns : goal.returns
returns c = reasons_count _ _ _ _ (sym c.in_ok-count.ensures) _ c.count_records.ensures c.if-out-count_records.false

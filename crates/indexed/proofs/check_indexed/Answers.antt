-- `check_indexed` meets its contract.
-- Assumes nothing.
use mathlib.Core.Path.{sym, ap, ◌∙◌}
use Rattle.records.proofs.Answers.{handed_on}
use Rattle.records.specs.Answers.{counted}
use Rattle.indexed.proofs.Finishing.{list_refused, work_short, index_short, script_left}
use Rattle.indexed.proofs.check_indexed.Goals as goal

pub returns-then-cap-count : goal.returns-then-cap-count
returns-then-cap-count c = work_short _ _ _ _ _ _ (sym c.in_ok-count.ensures) _ c.capacity-cap.ensures _ c.at.ensures c.if-cap-count.true

pub returns-then-index_room-cap : goal.returns-then-index_room-cap
returns-then-index_room-cap c = index_short _ _ _ _ _ _ (sym c.in_ok-count.ensures) _ c.capacity-cap.ensures c.if-cap-count.false _ c.at-then-index_room-cap.ensures c.if-index_room-cap.true

pub returns-in_err-count : goal.returns-in_err-count
returns-in_err-count c = handed_on _ _ _ _ c.from_residual.ensures (list_refused _ _ _ _ _ _ (sym c.in_err-count.ensures))

pub returns : goal.returns
returns c = script_left _ _ _ _ _ _ (sym c.in_ok-count.ensures) _ c.capacity-cap.ensures c.if-cap-count.false c.if-index_room-cap.false _ c.check_script.ensures

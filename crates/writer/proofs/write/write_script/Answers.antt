-- `write::write_script` meets its contract: the script is written where every test passes, and nothing where one fails.
-- Assumes nothing.
use mathlib.Core.Path.{◌≡◌, sym}
use mathlib.Core.List.{[], ◌∷◌}
use Rattle.records.proofs.Answers.{handed_on}
use Rattle.records.specs.Answers.{accepted}
use Rattle.cube.specs.Lists.{most_variables}
use Rattle.cube.specs.Calls.{check_list}
use Rattle.script.proofs.Outcomes.{passed}
use Rattle.writer.proofs.Calls.{list_refused, work_short, script_short, checked_fits, all_written}
use Rattle.writer.proofs.write.write_script.Goals as goal
use Rattle.writer.proofs.write.write_script.Goals.{In_ok-count}

told : (c : In_ok-count) → check_list most_variables c.args.n c.args.list.now ≡ accepted (c.in_ok-count.count ∷ [])
told c = sym c.in_ok-count.ensures

pub returns-then-capacity-count : goal.returns-then-capacity-count
returns-then-capacity-count c = let both = work_short _ _ _ _ _ (told (goal.at.returns-then-capacity-count c).In_ok-count) _ c.capacity.ensures c.if-capacity-count.true _ c.at.ensures in record { result_value = both.0; work_after = both.1.0; script_after = both.1.1 }

pub returns-then-script-min : goal.returns-then-script-min
returns-then-script-min c = let both = script_short _ _ _ _ _ (told (goal.at.returns-then-script-min c).In_ok-count) _ c.capacity.ensures c.if-capacity-count.false _ c.min.ensures c.if-script-min.true _ c.at-then-script-min.ensures in record { result_value = both.0; work_after = both.1.0; script_after = both.1.1 }

pub write_checked-requires : goal.write_checked-requires
write_checked-requires c =
    let s = c.args in
    let a = told (goal.at.write_checked-requires c).In_ok-count in record { accepts = passed _ _ a; list_len_bound = checked_fits _ _ s.work.now s.script.now _ a _ c.capacity.ensures c.if-capacity-count.false _ c.min.ensures }

pub returns-in_err-count : goal.returns-in_err-count
returns-in_err-count c = let both = list_refused _ _ _ _ _ (sym c.in_err-count.ensures) in record { result_value = handed_on _ _ _ _ c.from_residual.ensures both.0; work_after = both.1.0; script_after = both.1.1 }

pub returns : goal.returns
returns c = let both = all_written _ _ _ _ _ (told (goal.at.returns c).In_ok-count) _ c.capacity.ensures c.if-capacity-count.false _ c.min.ensures c.if-script-min.false _ _ _
    c.write_checked.ensures in record { result_value = both.0; work_after = both.1.0; script_after = both.1.1 }

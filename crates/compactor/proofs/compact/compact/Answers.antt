-- `compact::compact` meets its contract: the compacted script is written where every test passes, and nothing where one fails.
-- Assumes nothing.
use mathlib.Core.Path.{sym}
use native.Mathlib.Omega.{arith}
use Rattle.records.proofs.Answers.{handed_on}
use Rattle.records.specs.Answers.{Accepts}
use Rattle.script.specs.Calls.{check_script}
use Rattle.script.proofs.Outcomes.{passed}
use Rattle.compactor.proofs.Calls.{checked_faithful, checked_few, many_variables, many_products, script_refused, output_short, all_compacted}
use Rattle.compactor.proofs.compact.compact.Goals as goal
use Rattle.compactor.proofs.compact.compact.Goals.{In_ok-check_script}

told : (c : In_ok-check_script) → (let a = c.args in Accepts (check_script a.n a.script.now))
told c = passed _ _ (sym c.in_ok-check_script.ensures)

pub returns-then-n-gt-MOST_VARIABLES : goal.returns-then-n-gt-MOST_VARIABLES
returns-then-n-gt-MOST_VARIABLES c = let both = many_variables _ _ _ _ (omega arith) _ c.at.ensures in record { result_value = both.0; out_after = both.1 }

pub returns-then-count-gt-MOST_RECORDS : goal.returns-then-count-gt-MOST_RECORDS
returns-then-count-gt-MOST_RECORDS c = let both = many_products _ _ _ _ (omega arith) (omega arith) _ c.at-then-count-gt-MOST_RECORDS.ensures in record { result_value = both.0; out_after = both.1 }

pub returns-then-out-script : goal.returns-then-out-script
returns-then-out-script c = let both = output_short _ _ _ _ (omega arith) (omega arith) (told (goal.at.returns-then-out-script c).In_ok-check_script) c.if-out-script.true _ c.at-then-out-script.ensures in record { result_value = both.0; out_after = both.1 }

pub compact_checked-requires : goal.compact_checked-requires
compact_checked-requires c = record { faithful = checked_faithful _ _ (told (goal.at.compact_checked-requires c).In_ok-check_script); script_len_bound = (checked_few _ _ (told (goal.at.compact_checked-requires c).In_ok-check_script), omega arith, c.if-out-script.false) }

pub returns-in_err-check_script : goal.returns-in_err-check_script
returns-in_err-check_script c = let both = script_refused _ _ _ _ (omega arith) (omega arith) _ (sym c.in_err-check_script.ensures) in record { result_value = handed_on _ _ _ _ c.from_residual.ensures both.0; out_after = both.1 }

pub returns : goal.returns
returns c = let both = all_compacted _ _ _ _ (omega arith) (omega arith) (told (goal.at.returns c).In_ok-check_script) c.if-out-script.false _ _ c.compact_checked.ensures in record { result_value = both.0; out_after = both.1 }

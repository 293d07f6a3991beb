-- `wide_from_narrow::wide_from_narrow` meets its contract.
-- Assumes nothing.
use mathlib.Core.Path.{◌≡◌, sym}
use mathlib.Core.List.{[], ◌∷◌}
use native.Mathlib.Omega.{arith}
use Rattle.records.proofs.Answers.{handed_on}
use Rattle.records.proofs.Items.{all_any}
use Rattle.records.specs.Answers.{accepted}
use Rattle.cube.specs.Calls.{check_list_of}
use Rattle.converters.specs.NarrowRecord.{narrow_cubes, narrow_variables}
use Rattle.converters.specs.Calls.{wide_after}
use Rattle.cube.proofs.Lists.{count_is, count_most}
use Rattle.converters.proofs.Calls.{list_refused, out_short, all_written, wide_chain}
use Rattle.converters.proofs.wide_from_narrow.wide_from_narrow.Goals as goal
use Rattle.converters.proofs.wide_from_narrow.wide_from_narrow.Goals.{In_ok-count}

told : (a : In_ok-count) → check_list_of narrow_cubes narrow_variables a.args.n a.args.list.now ≡ accepted (a.in_ok-count.count ∷ [])
unfolding check_list_of
told a = sym a.in_ok-count.ensures

pub overflow_mul-count : goal.overflow_mul-count
overflow_mul-count c = omega (arith, count_most _ _ _ _ _ (told c))

pub returns-then-out-count : goal.returns-then-out-count
unfolding wide_after
returns-then-out-count c = let both = out_short _ _ _ _ _ c.args.out.now _ (wide_chain _ _ _) _ (told (goal.at.returns-then-out-count c).In_ok-count) _ c.at.ensures (omega arith) in record { result_value = both.0; out_after = both.1 }

pub carry_all-requires-clause-room : goal.carry_all-requires-clause-room
carry_all-requires-clause-room c = omega (arith, count_is _ _ _ _ _ (told (goal.at.carry_all-requires-clause-room c).In_ok-count))

pub carry_all-requires-clause-fits : goal.carry_all-requires-clause-fits
carry_all-requires-clause-fits c = all_any _

pub returns-in_err-count : goal.returns-in_err-count
unfolding wide_after check_list_of
returns-in_err-count c = let both = list_refused _ _ _ _ _ c.args.out.now _ (wide_chain _ _ _) _
    (sym c.in_err-count.ensures) in record { result_value = handed_on _ _ _ _ c.from_residual.ensures both.0; out_after = both.1 }

pub returns : goal.returns
unfolding wide_after
returns c = let both = all_written _ _ _ _ _ c.args.out.now _ (wide_chain _ _ _) _ (told (goal.at.returns c).In_ok-count) (omega arith) _ c.carry_all.ensures in record { result_value = both.0; out_after = both.1 }

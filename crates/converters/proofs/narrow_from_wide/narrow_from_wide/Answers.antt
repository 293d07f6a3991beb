-- `narrow_from_wide::narrow_from_wide` meets its contract.
-- Assumes nothing.
use mathlib.Core.Path.{◌≡◌, sym}
use mathlib.Core.List.{[], ◌∷◌}
use Prim.Native.Nat.{◌≤◌}
use native.Mathlib.Omega.{arith}
use Rattle.records.proofs.Answers.{handed_on}
use Rattle.records.specs.Answers.{accepted}
use Rattle.cube.specs.Lists.{cubes_of}
use Rattle.cube.specs.Calls.{check_list}
use Rattle.cube.proofs.Lists.{check_accepts, count_is, count_most, all_good_more}
use Rattle.converters.specs.NarrowRecord.{narrow_variables}
use Rattle.converters.specs.Calls.{narrow_after}
use Rattle.converters.proofs.Calls.{list_refused, out_short, all_written, narrow_chain, narrow_1, narrow_20}
use Rattle.converters.proofs.narrow_from_wide.narrow_from_wide.Goals as goal
use Rattle.converters.proofs.narrow_from_wide.narrow_from_wide.Goals.{After-check_within, In_ok-count}

-- once the list is checked, there are few variables
few : (c : After-check_within) → c.args.n ≤ narrow_variables
few c = omega arith

told : (a : In_ok-count) → check_list narrow_variables a.args.n a.args.list.now ≡ accepted (a.in_ok-count.count ∷ [])
told a = sym a.in_ok-count.ensures

pub returns-then-n-gt-MOST_VARIABLES : goal.returns-then-n-gt-MOST_VARIABLES
unfolding narrow_after
returns-then-n-gt-MOST_VARIABLES c = let both = narrow_1 _ _ _ _ _ c.at.ensures (omega arith) in record { result_value = both.0; out_after = both.1 }

pub returns-then-n-gt-NARROW_VARIABLES : goal.returns-then-n-gt-NARROW_VARIABLES
unfolding narrow_after
returns-then-n-gt-NARROW_VARIABLES c = let both = narrow_20 _ _ _ _ _ c.at-then-n-gt-NARROW_VARIABLES.ensures (omega arith) (omega arith) in record { result_value = both.0; out_after = both.1 }

pub overflow_mul-count : goal.overflow_mul-count
overflow_mul-count c = omega (arith, count_most _ _ _ _ _ (told c))

pub returns-then-out-count : goal.returns-then-out-count
unfolding narrow_after
returns-then-out-count c = let both = out_short _ _ _ _ _ c.args.out.now _ (narrow_chain _ _ _ (few (goal.at.returns-then-out-count c).After-check_within)) _ (told (goal.at.returns-then-out-count c).In_ok-count) _ c.at-then-out-count.ensures (omega arith) in record { result_value = both.0; out_after = both.1 }

pub carry_all-requires-clause-room : goal.carry_all-requires-clause-room
carry_all-requires-clause-room c = omega (arith, count_is _ _ _ _ _ (told (goal.at.carry_all-requires-clause-room c).In_ok-count))

pub carry_all-requires-clause-fits : goal.carry_all-requires-clause-fits
carry_all-requires-clause-fits c =
    let at = goal.at.carry_all-requires-clause-fits c in
    all_good_more _ narrow_variables (cubes_of c.args.list.now) (few at.After-check_within) (check_accepts _ _ _ _ _ (told at.In_ok-count)).good

pub returns-in_err-count : goal.returns-in_err-count
unfolding narrow_after
returns-in_err-count c = let both = list_refused _ _ _ _ _ c.args.out.now _ (narrow_chain _ _ _ (few (goal.at.returns-in_err-count c).After-check_within)) _
    (sym c.in_err-count.ensures) in record { result_value = handed_on _ _ _ _ c.from_residual.ensures both.0; out_after = both.1 }

pub returns : goal.returns
unfolding narrow_after
returns c = let both = all_written _ _ _ _ _ c.args.out.now _ (narrow_chain _ _ _ (few (goal.at.returns c).After-check_within)) _ (told (goal.at.returns c).In_ok-count) (omega arith) _ c.carry_all.ensures in record { result_value = both.0; out_after = both.1 }

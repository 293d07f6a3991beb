-- `value::truth_vector` meets its contract.
-- Assumes nothing.
use mathlib.Core.Path.{◌≡◌, sym}
use mathlib.Core.List.{[], ◌∷◌}
use Prim.Native.Nat.{◌*◌, ◌%◌, ◌^◌}
use native.Mathlib.Omega.{arith}
use Rattle.records.proofs.Answers.{handed_on}
use Rattle.records.specs.Answers.{accepted}
use Rattle.cube.specs.Calls.{check_list}
use Rattle.bits.proofs.Bits.{shl_one}
use Rattle.cube.specs.Lists.{cubes, vector_variables}
use Rattle.cube.proofs.Lists.{AcceptedList, check_accepts}
use Rattle.cube.proofs.value.Returns.{vector_refused, vector_short, vector_done}
use Rattle.cube.proofs.value.truth_vector.Goals as goal
use Rattle.cube.proofs.value.truth_vector.Goals.{In_ok-check_within}

-- what the accepted check said, in the arm of the count
told : (c : In_ok-check_within) → check_list vector_variables c.args.n c.args.list.now ≡ accepted (c.in_ok-check_within.field-0 ∷ [])
told c = sym c.in_ok-check_within.ensures

list_is : (c : In_ok-check_within) → AcceptedList cubes vector_variables c.args.n c.args.list.now
list_is c = check_accepts _ _ _ _ _ (told c)

power_is : (c : In_ok-check_within) → (1 * 2 ^ c.args.n) % 2 ^ 64 ≡ 2 ^ c.args.n
power_is c = shl_one _ 64 (omega (arith, (list_is c).few))

pub overflow_shl-assignments : goal.overflow_shl-assignments
overflow_shl-assignments c = omega (arith, (list_is c).few)

pub returns-then-out-assignments : goal.returns-then-out-assignments
returns-then-out-assignments c = let both = vector_short _ _ _ _ (told (goal.at.returns-then-out-assignments c).In_ok-check_within) _ (power_is (goal.at.returns-then-out-assignments c).In_ok-check_within) _ c.at.ensures c.if-out-assignments.true in record { result_value = both.0; out_after = both.1 }

pub fill_vector-requires : goal.fill_vector-requires
fill_vector-requires c = record { all = (list_is (goal.at.fill_vector-requires c).In_ok-check_within).good; record_width_len_bound = (list_is (goal.at.fill_vector-requires c).In_ok-check_within).short; assignments_value = (power_is (goal.at.fill_vector-requires c).In_ok-check_within, (list_is (goal.at.fill_vector-requires c).In_ok-check_within).few); assignments_in_bounds = c.if-out-assignments.false }

pub returns-in_err-check_within : goal.returns-in_err-check_within
returns-in_err-check_within c = let both = vector_refused _ _ _ _ (sym c.in_err-check_within.ensures) in record { result_value = handed_on _ _ _ _ c.from_residual.ensures both.0; out_after = both.1 }

pub returns : goal.returns
returns c = let both = vector_done _ _ _ _ (told (goal.at.returns c).In_ok-check_within) _ (power_is (goal.at.returns c).In_ok-check_within) c.if-out-assignments.false _ c.fill_vector.ensures in record { result_value = both.0; out_after = both.1 }

-- `value::check_at` meets its contract.
-- Assumes nothing.
use mathlib.Core.Path.{◌≡◌, sym}
use mathlib.Core.List.{[], ◌∷◌}
use native.Mathlib.Omega.{arith}
use Rattle.bits.proofs.Bits.{lt_of_shift, le_of_shift}
use Rattle.records.proofs.Answers.{handed_on}
use Rattle.records.specs.Answers.{accepted}
use Rattle.cube.specs.Lists.{cubes, most_variables}
use Rattle.cube.specs.Calls.{check_list}
use Rattle.cube.proofs.Lists.{check_accepts}
use Rattle.cube.proofs.Calls.{at_refused}
use Rattle.cube.proofs.value.Returns.{at_far, at_count}
use Rattle.cube.proofs.value.check_at.Goals as goal
use Rattle.cube.proofs.value.check_at.Goals.{In_ok-count}

-- what the accepted check said, in the arm of the count

told : (c : In_ok-count)
    → check_list most_variables c.args.n c.args.list.now ≡ accepted (c.in_ok-count.count ∷ [])
told c = sym c.in_ok-count.ensures

pub overflow_shr-a : goal.overflow_shr-a
overflow_shr-a c = omega (arith, (check_accepts cubes _ _ _ _ (told c)).few)

pub returns-then-a-n-ne0 : goal.returns-then-a-n-ne0
returns-then-a-n-ne0 c = at_far _ _ _ _ (told (goal.at.returns-then-a-n-ne0 c).In_ok-count) _ c.at.ensures (le_of_shift _ _ c.if-a-n-ne0.true)

pub returns-in_err-count : goal.returns-in_err-count
returns-in_err-count c = handed_on _ _ _ _ c.from_residual.ensures (at_refused _ _ _ _ (sym c.in_err-count.ensures))

pub returns : goal.returns
returns c = at_count _ _ _ _ (told (goal.at.returns c).In_ok-count) (lt_of_shift _ _ c.if-a-n-ne0.false)

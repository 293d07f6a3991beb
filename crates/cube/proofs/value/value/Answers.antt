-- `value::value` meets its contract.
-- Assumes nothing.
use mathlib.Core.Path.{◌≡◌, sym}
use mathlib.Core.List.{[], ◌∷◌}
use native.Mathlib.Omega.{arith}
use lib.Pow.{pow_mono}
use Rattle.records.proofs.Answers.{handed_on}
use Rattle.records.specs.Answers.{accepted}
use Rattle.cube.specs.Calls.{check_at}
use Rattle.cube.proofs.Calls.{AcceptedAt, at_accepts}
use Rattle.cube.proofs.value.Returns.{value_refused, value_bit_lem}
use Rattle.cube.proofs.value.value.Goals as goal
use Rattle.cube.proofs.value.value.Goals.{In_ok-check_at}

told : (c : In_ok-check_at) → check_at c.args.n c.args.list.now c.args.a ≡ accepted (c.in_ok-check_at.field-0 ∷ [])
told c = sym c.in_ok-check_at.ensures

passes : (c : In_ok-check_at) → AcceptedAt c.args.n c.args.list.now c.args.a
passes c = at_accepts _ _ _ _ (told c)

pub overflow_cast-a : goal.overflow_cast-a
overflow_cast-a c = omega (arith, pow_mono (passes c).list.few, (passes c).below)

pub trues_at-trues-requires : goal.trues_at-trues-requires
trues_at-trues-requires c = record { all = (passes c).list.good; record_width_len_bound = (passes c).list.short; a_bound = (passes c).below }

pub returns-in_err-check_at : goal.returns-in_err-check_at
returns-in_err-check_at c = handed_on _ _ _ _ c.from_residual.ensures (value_refused _ _ _ _ (sym c.in_err-check_at.ensures))

pub returns : goal.returns
returns c = value_bit_lem _ _ _ _ (told (goal.at.returns c).In_ok-check_at) _ c.trues_at-trues.ensures

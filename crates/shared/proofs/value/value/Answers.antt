-- `value::value` meets its contract.
-- Assumes nothing.
use mathlib.Core.Path.{◌≡◌, sym}
use mathlib.Core.List.{[], ◌∷◌}
use native.Mathlib.Omega.{arith}
use lib.Pow.{pow_mono}
use Rattle.records.proofs.Answers.{handed_on}
use Rattle.records.specs.Answers.{accepted}
use Rattle.shared.specs.Calls.{check_shared_at}
use Rattle.shared.proofs.Calls.{AcceptedSharedAt, shared_at_accepts, word_refused, word_answer}
use Rattle.shared.proofs.value.value.Goals as goal
use Rattle.shared.proofs.value.value.Goals.{In_ok-check_at}

told : (c : In_ok-check_at) → check_shared_at c.args.n c.args.list.now c.args.a ≡ accepted (c.in_ok-check_at.field-0 ∷ [])
told c = sym c.in_ok-check_at.ensures

passes : (c : In_ok-check_at) → AcceptedSharedAt c.args.n c.args.list.now c.args.a
passes c = shared_at_accepts _ _ _ _ (told c)

pub overflow_cast-a : goal.overflow_cast-a
overflow_cast-a c = omega (arith, pow_mono (passes c).list.few, (passes c).below)

pub word_at-requires : goal.word_at-requires
word_at-requires c = record { all = (passes c).list.good; a_bound = (passes c).below }

pub returns-in_err-check_at : goal.returns-in_err-check_at
returns-in_err-check_at c = handed_on _ _ _ _ c.from_residual.ensures (word_refused _ _ _ _ (sym c.in_err-check_at.ensures))

pub returns : goal.returns
returns c = word_answer _ _ _ _ (told (goal.at.returns c).In_ok-check_at) _ c.word_at.ensures

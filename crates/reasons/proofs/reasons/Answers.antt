-- `reasons` meets its contract: the places are written where every test passes, and nothing where one fails.
-- Assumes nothing.
use mathlib.Core.Path.{◌≡◌, sym, subst}
use mathlib.Core.List.{[], ◌∷◌}
use Prim.Native.Nat.{ℕ, ◌*◌, ◌≤◌}
use native.Mathlib.Omega.{arith}
use lib.ListN.{length}
use lib.Pow.{pow_mono}
use Rattle.records.proofs.Answers.{handed_on}
use Rattle.records.specs.Answers.{accepted}
use Rattle.records.specs.Places.{place_width}
use Rattle.cube.specs.Calls.{check_at}
use Rattle.cube.proofs.Calls.{AcceptedAt, at_accepts, count_at}
use Rattle.reasons.proofs.Calls.{list_refused, out_short, all_shown}
use Rattle.reasons.proofs.reasons.Goals as goal
use Rattle.reasons.proofs.reasons.Goals.{In_ok-count}

told : (c : In_ok-count) → check_at c.args.n c.args.list.now c.args.a ≡ accepted (c.in_ok-count.count ∷ [])
told c = sym c.in_ok-count.ensures

passes : (c : In_ok-count) → AcceptedAt c.args.n c.args.list.now c.args.a
passes c = at_accepts _ _ _ _ (told c)

pub overflow_mul-count : goal.overflow_mul-count
overflow_mul-count c = omega (arith, count_at _ _ _ _ (told c), (passes c).list.short)

pub returns-then-out-count : goal.returns-then-out-count
returns-then-out-count c = let both = out_short _ _ _ _ _ (told (goal.at.returns-then-out-count c).In_ok-count) _ c.at.ensures c.if-out-count.true in record { result_value = both.0; out_after = both.1 }

pub overflow_cast-a : goal.overflow_cast-a
overflow_cast-a c = omega (arith, pow_mono (passes (goal.at.overflow_cast-a c).In_ok-count).list.few, (passes (goal.at.overflow_cast-a c).In_ok-count).below)

pub put_trues-number-requires : goal.put_trues-number-requires
put_trues-number-requires c = let p = passes (goal.at.put_trues-number-requires c).In_ok-count in
    record { all = p.list.good; a_bound = p.below; record_width_len_bound = p.list.short; record_width_in_bounds = subst (λ (k : ℕ). place_width * k ≤ length c.args.out.now) (count_at _ _ _ _ (told (goal.at.put_trues-number-requires c).In_ok-count)) c.if-out-count.false }

pub returns-in_err-count : goal.returns-in_err-count
returns-in_err-count c = let both = list_refused _ _ _ _ _ (sym c.in_err-count.ensures) in record { result_value = handed_on _ _ _ _ c.from_residual.ensures both.0; out_after = both.1 }

pub returns : goal.returns
returns c = let both = all_shown _ _ _ _ _ (told (goal.at.returns c).In_ok-count) c.if-out-count.false _ c.put_trues-number.ensures.value _ c.put_trues-number.ensures.out_after in record { result_value = both.0; out_after = both.1 }

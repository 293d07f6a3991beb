-- `form::write_form` meets its contract: the form's list is written to the front of the buffer where every test passes, and nothing where one fails.
-- Assumes nothing.
use mathlib.Core.Path.{◌≡◌, sym}
use mathlib.Core.List.{[], ◌∷◌}
use native.Mathlib.Omega.{arith}
use Rattle.records.specs.Answers.{accepted}
use Rattle.records.proofs.Answers.{call_refused, call_accepted, handed_on}
use Rattle.polarity.specs.Vectors.{Vector, check_vector}
use Rattle.polarity.specs.Calls.{form_after}
use Rattle.polarity.proofs.Vectors.{check_accepts, check_long, vector_most}
use Rattle.polarity.proofs.form.Writing.{form_refused, form_15, form_5, form_0}
use Rattle.polarity.proofs.form.write_form.Goals as goal
use Rattle.polarity.proofs.form.write_form.Goals.{In_ok-m}

told : (a : In_ok-m) → check_vector a.args.n a.args.coefficients.now ≡ accepted (a.in_ok-m.m ∷ [])
told a = sym a.in_ok-m.ensures

ok : (a : In_ok-m) → Vector a.args.n a.args.coefficients.now
ok a = check_accepts _ _ _ (told a)

pub returns-then-m-p : goal.returns-then-m-p
unfolding form_after
returns-then-m-p c = let both = call_refused _ _ _ _ (form_15 _ _ _ _ _ (told (goal.at.returns-then-m-p c).In_ok-m) _ c.at.ensures c.if-m-p.true) in record { result_value = both.0; out_after = both.1 }

pub returns-then-capacity-count : goal.returns-then-capacity-count
unfolding form_after
returns-then-capacity-count c = let both = call_refused _ _ _ _ (form_5 _ _ _ _ _ (told (goal.at.returns-then-capacity-count c).In_ok-m) c.if-m-p.false _ c.count_products-count.ensures
    _ _ c.at-then-capacity-count.ensures c.capacity.ensures c.if-capacity-count.true) in record { result_value = both.0; out_after = both.1 }

pub overflow_cast-p : goal.overflow_cast-p
overflow_cast-p c =
    omega (arith, vector_most _ _ (ok (goal.at.overflow_cast-p c).In_ok-m), check_long _ _ _ (told (goal.at.overflow_cast-p c).In_ok-m), c.if-m-p.false)

pub put_form-requires : goal.put_form-requires
put_form-requires c = ok (goal.at.put_form-requires c).In_ok-m

pub returns-in_err-m : goal.returns-in_err-m
unfolding form_after
returns-in_err-m c = let both = call_refused _ _ _ _ (form_refused _ _ _ _ _ (sym c.in_err-m.ensures)) in record { result_value = handed_on _ _ _ _ c.from_residual.ensures both.0; out_after = both.1 }

pub returns : goal.returns
unfolding form_after
returns c = let both = call_accepted _ _ _ _ _ (form_0 _ _ _ _ _ (told (goal.at.returns c).In_ok-m) c.if-m-p.false _ c.count_products-count.ensures
    _ c.capacity.ensures c.if-capacity-count.false) c.put_form.ensures in record { result_value = both.0; out_after = both.1 }

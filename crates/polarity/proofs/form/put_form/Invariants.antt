-- `form::put_form` meets its contract: the loop keeps `Writing`.
-- Assumes nothing.
use Rattle.polarity.proofs.form.Writing.{Writing}
use Rattle.polarity.proofs.form.put_form.Given as goal

abbrev pub invariant-loop-s : goal.invariant-loop-s
invariant-loop-s l = Writing l.p l.coefficients l.initial.out l.out l.place l.s

-- `form::rank` meets its contract.
-- Assumes nothing.
use mathlib.Core.Bool.{not}
use native.Mathlib.Omega.{arith}
use Rattle.bits.proofs.Bools.{one_lt}
use Rattle.polarity.proofs.form.rank.Goals as goal

pub overflow_add-result : goal.overflow_add-result
overflow_add-result c = let constant = c.args.counts.constant in omega (arith, one_lt constant, one_lt (not constant))

-- `candidates::better` meets its contract.
-- Assumes nothing.
use native.Mathlib.Omega.{arith}
use Rattle.settling.proofs.candidates.Choosing.{later_better, earlier_better}
use Rattle.settling.proofs.candidates.better.Goals as goal

pub returns-then-later-earlier : goal.returns-then-later-earlier
returns-then-later-earlier c = later_better c.args.earlier c.args.later (omega (arith, c.if-later-earlier.true))

pub returns : goal.returns
returns c = earlier_better c.args.earlier c.args.later (omega (arith, c.if-later-earlier.false))

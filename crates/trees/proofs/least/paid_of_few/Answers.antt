-- `least::paid_of_few` meets its contract.
-- Assumes nothing.
use native.Mathlib.Omega.{arith}
use Rattle.trees.proofs.least.Costing.{paid_none, paid_left}
use Rattle.trees.proofs.least.paid_of_few.Goals as goal

pub returns-then-left-eq0 : goal.returns-then-left-eq0
returns-then-left-eq0 c = paid_left 0 c.args.left c.if-left-eq0.true (paid_none c.args.k _ _ c.paid_of_none.ensures)

pub returns-then-left-eq1 : goal.returns-then-left-eq1
returns-then-left-eq1 c = paid_left 1 c.args.left c.if-left-eq1.true c.paid_of_one.ensures

pub returns : goal.returns
returns c =
    paid_left 2 c.args.left (omega (arith, c.requires, c.if-left-eq1.false, c.if-left-eq0.false)) c.paid_of_two.ensures

-- The proof of the cycle of calls {least_paid}. The measure is the number of variables that are left.
-- Assumes nothing.
use Prim.Native.Nat.{◌-◌, ◌≤◌}
use native.Mathlib.Numerals.{add-one}
use native.Mathlib.Omega.{arith}
use Rattle.trees.proofs.least.Costing.{paid_few, paid_node}
use Rattle.trees.proofs.least.+least_paid.Goals as goal

pub paid_of_few-requires : goal.paid_of_few-requires
paid_of_few-requires t c = (omega (arith, c.if-left-le2.true), c.requires)

pub returns-then-left-le2 : goal.returns-then-left-le2
returns-then-left-le2 t c = c.paid_of_few.ensures

pub overflow_add-j : goal.overflow_add-j
overflow_add-j t c = omega (arith, c.requires)

pub least_paid-requires : goal.least_paid-requires
least_paid-requires t c = (omega (arith, c.decreases, c.if-left-le2.false), omega (arith, c.requires, c.if-left-le2.false))

pub least_paid-requires-2 : goal.least_paid-requires-2
least_paid-requires-2 t c = (omega (arith, c.decreases, c.if-left-le2.false), omega (arith, c.requires, c.if-left-le2.false))

pub least_paid-requires-3 : goal.least_paid-requires-3
least_paid-requires-3 t c = (omega (arith, c.decreases, c.if-left-le2.false), omega (arith, c.requires, c.if-left-le2.false))

pub joined-requires : goal.joined-requires
joined-requires t c =
    let few : c.args.left - 1 ≤ 8 = omega (arith, c.requires) in
    (paid_few few c.least_paid.ensures, paid_few few c.least_paid-2.ensures, paid_few few c.least_paid-3.ensures)

pub returns : goal.returns
returns t c =
    paid_node c.args.k _ c.args.left _ (add-one c.args.k) (omega (arith, c.if-left-le2.false)) c.requires _ _ _ c.lowered-change.ensures c.sum-upper.ensures _ _ _ _
    c.least_paid.ensures c.least_paid-2.ensures c.least_paid-3.ensures c.joined.ensures

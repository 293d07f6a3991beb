-- The proof of the cycle of calls {costs_from}. The measure is the number of variables that are left.
-- Assumes nothing.
use Prim.Native.Nat.{◌-◌, ◌≤◌}
use native.Mathlib.Numerals.{add-one}
use native.Mathlib.Omega.{arith}
use Rattle.trees.proofs.least.Costing.{costs_none, costs_few, paid_few, costs_node}
use Rattle.trees.proofs.least.+costs_from.Goals as goal

pub returns-then-left-eq0 : goal.returns-then-left-eq0
returns-then-left-eq0 t c = costs_none c.args.k c.args.left c.if-left-eq0.true _ _ c.costs_of_none.ensures

pub overflow_add-j : goal.overflow_add-j
overflow_add-j t c = omega (arith, c.requires)

pub costs_from-requires : goal.costs_from-requires
costs_from-requires t c = (omega (arith, c.decreases, c.if-left-eq0.false), omega (arith, c.requires, c.if-left-eq0.false))

pub costs_from-requires-2 : goal.costs_from-requires-2
costs_from-requires-2 t c = (omega (arith, c.decreases, c.if-left-eq0.false), omega (arith, c.requires, c.if-left-eq0.false))

pub least_paid-requires : goal.least_paid-requires
least_paid-requires t c = omega (arith, c.requires, c.if-left-eq0.false)

pub node_costs-requires : goal.node_costs-requires
node_costs-requires t c =
    let few : c.args.left - 1 ≤ 8 = omega (arith, c.requires) in
    (costs_few few c.costs_from.ensures, costs_few few c.costs_from-2.ensures, paid_few few c.least_paid.ensures)

pub returns : goal.returns
returns t c =
    costs_node c.args.k _ c.args.left _ (add-one c.args.k) (omega (arith, c.if-left-eq0.false)) c.requires _ _ _ c.lowered-change.ensures c.sum-upper.ensures _ _ _
    c.costs_from.ensures c.costs_from-2.ensures c.least_paid.ensures _ c.node_costs.ensures

-- `node::first_least` meets its contract.
-- Assumes nothing.
use native.Mathlib.Omega.{arith}
use Rattle.trees.proofs.node.Firsts.{first_shannon, first_positive, first_negative}
use Rattle.trees.proofs.node.first_least.Goals as goal

pub returns-then-shannon-min : goal.returns-then-shannon-min
returns-then-shannon-min c =
    first_shannon c.args.shannon c.args.positive c.args.negative (omega (arith, c.min.ensures, c.if-shannon-min.true))

pub returns-then-positive-negative : goal.returns-then-positive-negative
returns-then-positive-negative c =
    first_positive c.args.shannon c.args.positive c.args.negative (omega (arith, c.min.ensures, c.if-shannon-min.false)) (omega (arith, c.if-positive-negative.true))

pub returns : goal.returns
returns c =
    first_negative c.args.shannon c.args.positive c.args.negative (omega (arith, c.min.ensures, c.if-shannon-min.false)) (omega (arith, c.if-positive-negative.false))

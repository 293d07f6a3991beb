-- `tree::count_tree` meets its contract.
-- Assumes nothing.
use native.Mathlib.Omega.{arith}
use Rattle.trees.proofs.least.Costing.{costs_few}
use Rattle.trees.proofs.tree.Calling.{counts_are}
use Rattle.trees.proofs.tree.count_tree.Goals as goal

pub bits_of-requires : goal.bits_of-requires
bits_of-requires c = c.requires

pub overflow_cast-result : goal.overflow_cast-result
overflow_cast-result c = omega (arith, (costs_few c.requires.few c.least_costs-costs.ensures).products)

pub returns : goal.returns
returns c = counts_are c.args.n _ c.requires _ c.bits_of.ensures _ c.least_costs-costs.ensures

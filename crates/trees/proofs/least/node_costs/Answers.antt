-- `least::node_costs` meets its contract.
-- Assumes nothing.
use Rattle.trees.specs.declared.Expansion.TheVariants.{Shannon, Positive, Negative}
use Rattle.trees.proofs.least.Costing.{node_made}
use Rattle.trees.proofs.least.node_costs.Goals as goal

pub returns-in-Shannon : goal.returns-in-Shannon
returns-in-Shannon c = node_made _ _ _ Shannon _ _ c.first_least.ensures c.in-Shannon.is c.joined-paid.ensures

pub returns-in-Positive : goal.returns-in-Positive
returns-in-Positive c =
    node_made _ _ _ Positive _ _ c.first_least.ensures c.in-Positive.is c.joined-paid.ensures

pub returns-in-Negative : goal.returns-in-Negative
returns-in-Negative c =
    node_made _ _ _ Negative _ _ c.first_least.ensures c.in-Negative.is c.joined-paid.ensures

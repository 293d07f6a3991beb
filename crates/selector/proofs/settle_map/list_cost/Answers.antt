-- `settle_map::list_cost` meets its contract.
-- Assumes nothing.
use Rattle.selector.proofs.settle_map.Pricing.{free_fits, cost_is}
use Rattle.selector.proofs.settle_map.list_cost.Goals as goal

pub overflow_sub-result : goal.overflow_sub-result
overflow_sub-result c = free_fits _ _ c.count_list-counts.ensures

pub returns : goal.returns
returns c = cost_is _ _ c.count_list-counts.ensures

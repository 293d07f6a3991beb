-- `map_reasons::map_reasons` meets its contract.
-- Assumes nothing.
use Rattle.selector.proofs.map_reasons.Finishing.{reasons_by_value}
use Rattle.selector.proofs.map_reasons.map_reasons.Goals as goal

pub returns : goal.returns
returns c = reasons_by_value _ _ _ _ _ _ _ c.reasons_into-answer.ensures

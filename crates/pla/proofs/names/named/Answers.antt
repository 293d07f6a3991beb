-- `names::named` meets its contract: a number that is no name's.
-- Assumes nothing.
use Rattle.pla.proofs.Saying.{named_unknown}
use Rattle.pla.proofs.names.named.Goals as goal

pub returns-in-Err : goal.returns-in-Err
returns-in-Err c = named_unknown _ _ _ _ c.in-Err.ensures.1

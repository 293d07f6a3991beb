-- `dm_index` meets its contract.
-- Assumes nothing.
use Rattle.druthmoy.proofs.Starts.{starts_built}
use Rattle.druthmoy.proofs.dm_index.Goals as goal

pub returns-clause-starts_after : goal.returns-clause-starts_after
returns-clause-starts_after c = starts_built _ _ _ _ c.build-indexed.ensures.answer_value c.build-indexed.ensures.starts_value c.put_indexed.ensures.starts_after

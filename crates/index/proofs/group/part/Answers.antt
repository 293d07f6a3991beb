-- `group::part` meets its contract.
-- Assumes nothing.
use Rattle.index.specs.Calls.{part_of}
use Rattle.index.proofs.group.Grouping.{part_size}
use Rattle.index.proofs.group.part.Goals as goal

pub returns : goal.returns
unfolding part_of
returns c = part_size c.args.index.now c.args.from c.args.size

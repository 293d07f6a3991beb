-- `group::next_start` meets its contract.
-- Assumes nothing.
use Rattle.index.proofs.group.Sizes.{next_last, next_before}
use Rattle.index.proofs.group.next_start.Goals as goal

pub returns-then-m-ge32 : goal.returns-then-m-ge32
returns-then-m-ge32 c = search next_last

pub returns : goal.returns
returns c = search next_before

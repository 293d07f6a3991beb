-- `with_byte` meets its contract: the loop keeps `Turning`.
-- Assumes nothing.
use borrow.Author.Rules.{rules}
use Rattle.cksum.proofs.Remainders.{turning_none, turning_more, turning_end}
use Rattle.cksum.proofs.with_byte.Goals as goal

pub loop-turned-init : goal.loop-turned-init
loop-turned-init c = rw c.from.ensures (turning_none _ _)

pub loop-turned-preserved : goal.loop-turned-preserved
loop-turned-preserved c = search (turning_more, rules)

pub returns : goal.returns
returns c = search (turning_end, rules)

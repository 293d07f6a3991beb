-- `with_length` meets its contract: the loop keeps `Measuring`.
-- Assumes nothing.
use borrow.Author.Rules.{rules}
use Rattle.cksum.proofs.Remainders.{measuring_none, measuring_more, measuring_end}
use Rattle.cksum.proofs.with_length.Goals as goal

pub loop-n-init : goal.loop-n-init
loop-n-init c = measuring_none _ _

pub loop-n-preserved : goal.loop-n-preserved
loop-n-preserved c = search (measuring_more, rules)

pub returns : goal.returns
returns c = search (measuring_end, rules)

-- `with_bytes` meets its contract: the loop keeps `Passing`.
-- Assumes nothing.
use borrow.Author.Rules.{rules}
use Rattle.cksum.proofs.Remainders.{passing_none, passing_more, passing_end}
use Rattle.cksum.proofs.with_bytes.Goals as goal

pub loop-byte-init : goal.loop-byte-init
loop-byte-init c = passing_none _ _

pub loop-byte-preserved : goal.loop-byte-preserved
loop-byte-preserved c = search (passing_more, rules)

pub returns : goal.returns
returns c = search (passing_end, rules)

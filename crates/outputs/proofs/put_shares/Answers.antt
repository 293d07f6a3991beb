-- `put_shares` meets its contract: the loop keeps `Sharing`.
-- Assumes nothing.
use borrow.Author.Rules.{rules}
use Rattle.outputs.proofs.Sharing.{sharing_more, sharing_all}
use Rattle.outputs.proofs.put_shares.Goals as goal

pub loop-i-preserved : goal.loop-i-preserved
loop-i-preserved c = search (sharing_more, rules)

pub returns : goal.returns
returns c = search (sharing_all, rules)

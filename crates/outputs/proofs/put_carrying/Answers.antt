-- `put_carrying` meets its contract: the loop keeps `Gathering`.
-- Assumes nothing.
use borrow.Author.Rules.{rules}
use Rattle.outputs.proofs.Gathering.{gathering_more, gathering_count, gathering_all}
use Rattle.outputs.proofs.put_carrying.Goals as goal

pub loop-i-preserved : goal.loop-i-preserved
loop-i-preserved c = search (gathering_more, rules)

pub returns : goal.returns
returns c = record { value = search (gathering_count, gathering_all, rules); out_after = search (gathering_count, gathering_all, rules) }

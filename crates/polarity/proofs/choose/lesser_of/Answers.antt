-- `choose::lesser_of` meets its contract.
-- Assumes nothing.
use Rattle.polarity.proofs.choose.Search.{lesser_upper, lesser_lower}
use Rattle.polarity.proofs.choose.lesser_of.Goals as goal
use Rattle.polarity.proofs.choose.lesser_of.Goals.{then-t, else-t}

pub returns : goal.returns
returns c = elim c.if-t.branch [
  | then-t w ↦ lesser_upper _ _ _ _ c.min.ensures w.if-t.true w.result-is
  | else-t w ↦ lesser_lower _ _ _ _ c.min.ensures w.if-t.false w.result-is
]

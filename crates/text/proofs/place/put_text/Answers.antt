-- `place::put_text` meets its contract. The invariant: the bytes passed are laid; the measure is how many are left.
-- Assumes nothing.
use Rattle.text.proofs.Laying.{copied_none, copied_more, copied_end, copied_kept}
use borrow.Author.Rules.{rules}
use Rattle.text.proofs.place.put_text.Goals as goal

pub loop-b-init : goal.loop-b-init
loop-b-init c = search (copied_none, rules)

pub loop-b-preserved : goal.loop-b-preserved
loop-b-preserved c = search (copied_more, rules)

pub shape_of-out : goal.shape_of-out
shape_of-out c = search (copied_kept, rules)

pub returns : goal.returns
returns c = search (copied_end, rules)

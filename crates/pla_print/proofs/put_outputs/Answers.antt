-- `put_outputs` meets its contract. The invariant: the characters of the outputs passed are laid.
-- Assumes nothing.
use Rattle.pla_print.proofs.Printing.{marked_none, marked_more, marked_end, marked_kept}
use borrow.Author.Rules.{rules}
use Rattle.pla_print.proofs.put_outputs.Goals as goal

pub loop-k-init : goal.loop-k-init
loop-k-init c = search (marked_none, rules)

pub loop-k-preserved : goal.loop-k-preserved
loop-k-preserved c = marked_more c.loop-k.invariant c.loop-k-test.true c.bit.ensures c.mark.ensures c.put_byte-p.ensures

pub shape_of-out : goal.shape_of-out
shape_of-out c = search (marked_kept, rules)

pub returns : goal.returns
returns c = search (marked_end, rules)

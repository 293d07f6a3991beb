-- `put_products` meets its contract. The invariant: the lines of the records passed are laid.
-- Assumes nothing.
use Rattle.pla_print.proofs.Printing.{listed_none, listed_more, listed_end, listed_kept}
use borrow.Author.Rules.{rules}
use Rattle.pla_print.proofs.put_products.Goals as goal

pub loop-i-init : goal.loop-i-init
loop-i-init c = search (listed_none, rules)

pub loop-i-preserved : goal.loop-i-preserved
loop-i-preserved c = listed_more c.loop-i.invariant c.loop-i-test.true c.record_at.ensures c.put_product-p.ensures

pub shape_of-out : goal.shape_of-out
shape_of-out c = search (listed_kept, rules)

pub returns : goal.returns
returns c = search (listed_end, rules)

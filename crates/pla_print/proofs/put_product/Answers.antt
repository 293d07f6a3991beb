-- `put_product` meets its contract: the parts of a line, one after another.
-- Assumes nothing.
use Rattle.pla_print.proofs.Printing.{product_laid}
use Rattle.pla_print.proofs.put_product.Goals as goal

pub returns : goal.returns
returns c = product_laid _ _ c.args.s c.put_cube-gap.ensures c.put_byte-first.ensures c.put_outputs-last.ensures c.put_byte.ensures

-- `print` meets its contract: the lines before the products, the products, and the end.
-- Assumes nothing.
use Rattle.pla_print.proofs.Printing.{pla_laid}
use Rattle.pla_print.proofs.print.Goals as goal

pub returns : goal.returns
returns c = pla_laid _ _ c.args.list.now c.put_head-first.ensures c.put_products-last.ensures c.put_text.ensures

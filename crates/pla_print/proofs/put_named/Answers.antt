-- `put_named` meets its contract: the parts of a line, one after another.
-- Assumes nothing.
use Rattle.pla_print.proofs.Printing.{line_laid}
use Rattle.pla_print.proofs.put_named.Goals as goal

pub returns : goal.returns
returns c = line_laid c.put_text-gap.ensures c.put_byte-first.ensures c.put_number-end.ensures c.put_byte.ensures

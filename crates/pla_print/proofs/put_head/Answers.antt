-- `put_head` meets its contract: four lines, one after another.
-- Assumes nothing.
use Rattle.pla_print.proofs.Printing.{head_laid}
use Rattle.pla_print.proofs.put_head.Goals as goal

pub returns : goal.returns
returns c = head_laid _ _ _ c.put_named-second.ensures c.put_named-third.ensures c.put_text-last.ensures c.put_named.ensures

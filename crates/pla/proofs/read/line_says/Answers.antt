-- `read::line_says` meets its contract: what stands before the comment is what the line says.
-- Assumes nothing.
use borrow.Author.Rules.{rules}
use Rattle.pla.proofs.Saying.{line_before}
use Rattle.pla.proofs.read.line_says.Goals as goal

pub returns : goal.returns
returns c = search (line_before, rules)

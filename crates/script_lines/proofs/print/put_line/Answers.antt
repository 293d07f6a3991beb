-- `print::put_line` meets its contract: a step, and the end of its line.
-- Assumes nothing.
use Rattle.script_lines.proofs.Printing.{line_laid}
use borrow.Author.Rules.{rules}
use Rattle.script_lines.proofs.print.put_line.Goals as goal

pub returns : goal.returns
returns c = search (line_laid, rules)

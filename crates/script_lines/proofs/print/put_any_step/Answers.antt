-- `print::put_any_step` meets its contract: a merge, and any other step.
-- Assumes nothing.
use Rattle.script_lines.proofs.Printing.{merge_laid, plain_laid}
use borrow.Author.Rules.{rules}
use Rattle.script_lines.proofs.print.put_any_step.Goals as goal

pub returns-then-x-eq-MERGE : goal.returns-then-x-eq-MERGE
returns-then-x-eq-MERGE c = search (merge_laid, rules)

pub returns : goal.returns
returns c = search (plain_laid, rules)

-- `read::line_says` meets its contract: what stands before the comment says it.
-- Assumes nothing.
use Rattle.script_lines.proofs.Saying.{content_said}
use borrow.Author.Rules.{rules}
use Rattle.script_lines.proofs.read.line_says.Goals as goal

pub returns : goal.returns
returns c = search (content_said, rules)

-- `word::is_blank_from` meets its contract: the blanks end where the line does.
-- Assumes nothing.
use Rattle.lines.proofs.Words.{blank_told}
use borrow.Author.Rules.{rules}
use Rattle.lines.proofs.word.is_blank_from.Goals as goal

pub returns : goal.returns
returns c = search (blank_told, rules)

-- `step::put_field` meets its contract: nothing, or a space, a lead and a number.
-- Assumes nothing.
use Rattle.text.proofs.Steps.{unused_laid, field_laid}
use borrow.Author.Rules.{rules}
use Rattle.text.proofs.step.put_field.Goals as goal

pub returns-then-not-used : goal.returns-then-not-used
returns-then-not-used c = search (unused_laid, rules)

pub returns : goal.returns
returns c = search (field_laid, rules)

-- `step::put_step` meets its contract: the word, and the fields that are used.
-- Assumes nothing.
use Rattle.text.proofs.Steps.{step_laid}
use borrow.Author.Rules.{rules}
use Rattle.text.proofs.step.put_step.Goals as goal

pub returns : goal.returns
returns c = step_laid c.args.x (rw c.word_of.ensures at c.put_text-v.ensures) c.put_field-i.ensures c.put_field-j.ensures c.uses_j.ensures c.put_field-literal.ensures c.put_field.ensures

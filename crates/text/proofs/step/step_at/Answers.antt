-- `step::step_at` meets its contract: the operation that is read fits a byte.
-- Assumes nothing.
use Rattle.text.proofs.Fields.{operation_fits}
use borrow.Author.Rules.{rules}
use Rattle.text.proofs.step.step_at.Goals as goal

pub overflow_cast-word : goal.overflow_cast-word
overflow_cast-word c = search (operation_fits, rules)

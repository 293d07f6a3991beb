-- `step::fields_at` meets its contract: a field of one byte fits a byte.
-- Assumes nothing.
use Rattle.text.proofs.Fields.{field_fits}
use borrow.Author.Rules.{rules}
use Rattle.text.proofs.step.fields_at.Goals as goal

pub overflow_cast-step : goal.overflow_cast-step
overflow_cast-step c = search (field_fits, rules)

pub overflow_cast-step-2 : goal.overflow_cast-step-2
overflow_cast-step-2 c = search (field_fits, rules)

-- `label::label_in` meets its contract: the label of what the line says.
-- Assumes nothing.
use mathlib.Core.Path.{sym, ap, ◌∙◌}
use Rattle.program.specs.Labels.{label_of, label_line}
use Rattle.program.proofs.label.label_in.Goals as goal

pub returns-in-Some : goal.returns-in-Some
unfolding label_line
returns-in-Some c = ap label_of (sym c.in-Some.is ∙ c.number_in.ensures)

pub returns-in-None : goal.returns-in-None
unfolding label_line
returns-in-None c = ap label_of (sym c.in-None.is ∙ c.number_in.ensures)

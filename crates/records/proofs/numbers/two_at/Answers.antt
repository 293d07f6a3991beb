-- `numbers::two_at` meets its contract.
-- Assumes nothing.
use mathlib.Core.Path.{◌∙◌}
use Rattle.records.proofs.Widths.{number_one, number_parts}
use Rattle.records.proofs.numbers.two_at.Goals as goal

pub returns : goal.returns
returns c = c.pair.ensures ∙ number_parts 1 1 _ _ _ _ (number_one _ _) (number_one _ _)

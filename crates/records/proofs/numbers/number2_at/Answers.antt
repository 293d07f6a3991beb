-- `numbers::number2_at` meets its contract.
-- Assumes nothing.
use mathlib.Core.Path.{◌∙◌}
use Rattle.records.proofs.Widths.{number_end, number_parts}
use Rattle.records.proofs.numbers.number2_at.Goals as goal

pub returns-then-b-p : goal.returns-then-b-p
returns-then-b-p c = search number_end

pub returns : goal.returns
returns c = c.pair.ensures ∙ number_parts 1 1 _ _ _ _ c.byte_at.ensures c.byte_at-2.ensures

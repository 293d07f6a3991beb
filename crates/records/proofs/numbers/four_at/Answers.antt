-- `numbers::four_at` meets its contract.
-- Assumes nothing.
use Rattle.records.proofs.Widths.{number_parts}
use Rattle.records.proofs.numbers.four_at.Goals as goal

pub returns : goal.returns
returns c = search (number_parts 2 2)

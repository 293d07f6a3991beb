-- `numbers::number4_at` meets its contract.
-- Assumes nothing.
use Rattle.records.proofs.Widths.{number_end, number_parts}
use Rattle.records.proofs.numbers.number4_at.Goals as goal

pub returns-then-b-p : goal.returns-then-b-p
returns-then-b-p c = search number_end

pub returns : goal.returns
returns c = search (number_parts 2 2)

-- `narrow::mask_at` meets its contract.
-- Assumes nothing.
use Rattle.records.proofs.Widths.{number_in}
use Rattle.converters.proofs.narrow.mask_at.Goals as goal

pub returns : goal.returns
returns c = number_in 2 _ _ _ c.number2_at.ensures

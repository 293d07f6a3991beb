-- `record::mask_at` meets its contract.
-- Assumes nothing.
use Rattle.records.proofs.Widths.{number_in}
use Rattle.cube.proofs.record.mask_at.Goals as goal

pub returns : goal.returns
returns c = search number_in

-- `place::place_at` meets its contract.
-- Assumes nothing.
use Rattle.records.proofs.Widths.{number_in}
use Rattle.records.proofs.Places.{place_read}
use Rattle.records.proofs.place.place_at.Goals as goal

pub returns : goal.returns
returns c = place_read _ _ _ (number_in 2 _ _ _ c.number2_at.ensures)

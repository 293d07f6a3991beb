-- `place::put_place` meets its contract: what is stored over a place's part of the buffer is the place stored.
-- Assumes nothing.
use Rattle.records.proofs.Places.{place_stored}
use Rattle.records.proofs.place.put_place.Goals as goal

pub returns : goal.returns
returns c = place_stored _ _ _ c.requires _ c.put_number2.ensures

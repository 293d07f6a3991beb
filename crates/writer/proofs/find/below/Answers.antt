-- `find::below` meets its contract.
-- Assumes nothing.
use Rattle.writer.proofs.Searching.{found_below}
use Rattle.writer.proofs.find.below.Goals as goal

pub returns : goal.returns
returns c =
    found_below _ _ _ c.requires.ready _ c.requires.row_lt_count _ c.record_at.ensures _ c.near_from.ensures

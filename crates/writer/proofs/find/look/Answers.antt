-- `find::look` meets its contract.
-- Assumes nothing.
use Rattle.writer.proofs.Searching.{looked_here, looked_past}
use Rattle.writer.proofs.find.look.Goals as goal

pub returns-then-mark-ne0 : goal.returns-then-mark-ne0
returns-then-mark-ne0 c = looked_past _ _ _ c.requires.ready _ _ c.if-mark-ne0.true

pub returns : goal.returns
returns c =
    looked_here _ _ _ c.requires.ready _ c.requires.i_lt_count _ c.record_at.ensures _ _ c.if-mark-ne0.false c.near_from.ensures

-- `find::find` meets its contract.
-- Assumes nothing.
use native.Mathlib.Omega.{arith}
use Rattle.writer.proofs.Scanning.{find_past, find_none, find_low}
use Rattle.writer.proofs.find.find.Goals as goal

pub scan-requires : goal.scan-requires
scan-requires c = record { ready = c.requires.ready; count_in_bounds = c.requires.count_in_bounds; watched = find_past _ _ _ _ _ c.requires.watched c.if-count-row.true }

pub returns-then-k-row : goal.returns-then-k-row
returns-then-k-row c =
    find_low _ _ _ _ _ c.requires.watched _ c.below-k.ensures c.if-count-row.false (omega (arith, c.if-k-row.true))

pub scan-requires-2 : goal.scan-requires-2
scan-requires-2 c = record { ready = c.requires.ready; count_in_bounds = c.requires.count_in_bounds; watched = find_none _ _ _ _ _ c.requires.watched _ c.below-k.ensures (omega (arith, c.if-k-row.false)) }

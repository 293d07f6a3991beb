-- `part::repeat` copies what the part has from a place on: that stays within the part, which only grows and fits.
-- Assumes nothing.
use Rattle.std.proofs.Common.{◌≤◌, length}
use Rattle.rows.proofs.part.repeat.Given as goal

abbrev pub invariant-loop : goal.invariant-loop
invariant-loop l = (l.from ≤ l.to) × (l.to ≤ l.size) × (l.size ≤ length l.out)

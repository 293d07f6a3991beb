-- `Reader::items`: the last bracket opened within the part, which fits.
-- Assumes nothing.
use Rattle.std.proofs.Common.{◌≤◌, length}
use Rattle.rows.proofs.reader.Reader.items.Given as goal

abbrev pub invariant-loop : goal.invariant-loop
invariant-loop l = (l.group ≤ l.size) × (l.size ≤ length l.out)

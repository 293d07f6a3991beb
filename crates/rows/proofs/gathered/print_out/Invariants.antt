-- `gathered::print_out` has printed no more than there is.
-- Assumes nothing.
use Rattle.std.proofs.Common.{◌≤◌, length}
use Rattle.rows.proofs.gathered.print_out.Given as goal

abbrev pub invariant-loop : goal.invariant-loop
invariant-loop g l = l.printed ≤ length l.bytes

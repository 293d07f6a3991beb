-- `lists::lists_of` keeps: the lists lie in the buffer.
-- Assumes nothing.
use Rattle.std.proofs.Common.{length, ◌≤◌}
use Rattle.asked.proofs.lists.lists_of.Given as goal

abbrev pub invariant-loop-k : goal.invariant-loop-k
invariant-loop-k l = l.end ≤ length l.bytes

-- `table::join_parts` meets its contract: the loop keeps `Joined`.
-- Assumes nothing.
use Rattle.kronecker.proofs.table.Joining.{Joined}
use Rattle.kronecker.proofs.table.join_parts.Given as goal

abbrev pub invariant-loop-i : goal.invariant-loop-i
invariant-loop-i l = Joined l.part l.initial.table l.table l.i

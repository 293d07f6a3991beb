-- `lengths::add_up` meets its contract: the loop keeps `Adding`.
-- Assumes nothing.
use Rattle.selector.proofs.lengths.Adding.{Adding}
use Rattle.selector.proofs.lengths.add_up.Given as goal

abbrev pub invariant-loop-length : goal.invariant-loop-length
invariant-loop-length l = Adding l.lengths l.size l.left l.length-index

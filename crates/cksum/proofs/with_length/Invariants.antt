-- `with_length` meets its contract: the loop keeps `Measuring`.
-- Assumes nothing.
use Rattle.cksum.proofs.Remainders.{Measuring}
use Rattle.cksum.proofs.with_length.Given as goal

abbrev pub invariant-loop-n : goal.invariant-loop-n
invariant-loop-n l = Measuring l.crc l.size l.c l.n

abbrev pub decreases-loop-n : goal.decreases-loop-n
decreases-loop-n l = l.n

-- `put_trues` meets its contract: the loop keeps `Showing`.
-- Assumes nothing.
use Rattle.reasons.proofs.Showing.{Showing}
use Rattle.reasons.proofs.put_trues.Given as goal

abbrev pub invariant-loop-i : goal.invariant-loop-i
invariant-loop-i l = Showing l.n l.list l.a l.initial.out l.out l.k l.i

-- `compact::put_kept` meets its contract: the loop keeps `Putting`.
-- Assumes nothing.
use Rattle.compactor.proofs.Calls.{Putting}
use Rattle.compactor.proofs.compact.put_kept.Given as goal

abbrev pub invariant-loop-t : goal.invariant-loop-t
invariant-loop-t l = Putting l.script l.kept l.top l.initial.out l.out l.t

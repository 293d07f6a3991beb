-- `put_carrying` meets its contract: the loop keeps `Gathering`.
-- Assumes nothing.
use Rattle.outputs.proofs.Gathering.{Gathering}
use Rattle.outputs.proofs.put_carrying.Given as goal

abbrev pub invariant-loop-i : goal.invariant-loop-i
invariant-loop-i l = Gathering l.k l.list l.initial.out l.out l.met l.i

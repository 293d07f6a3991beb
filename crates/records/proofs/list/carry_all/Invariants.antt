-- `list::carry_all` meets its contract: the loop keeps `Converting`.
-- Assumes nothing.
use Rattle.records.proofs.Converting.{Converting}
use Rattle.records.proofs.list.carry_all.Given as goal

abbrev pub invariant-loop-i : goal.invariant-loop-i
invariant-loop-i g l = Converting g.From.Kind.codec g.To.Kind.codec l.list l.initial.out l.out l.i

-- `value::fill_each` meets its contract: the loop keeps `Vectoring`.
-- Assumes nothing.
use Rattle.cube.proofs.value.Valuing.{Vectoring}
use Rattle.cube.proofs.value.fill_each.Given as goal

abbrev pub invariant-loop-a : goal.invariant-loop-a
invariant-loop-a l = Vectoring l.n l.list l.initial.out l.out l.a

-- `steps::reorder::reorder_on` meets its contract.
-- Assumes nothing.
use Rattle.steps.proofs.reorder.Reordering.{Mapped}
use Rattle.steps.proofs.reorder.reorder_on.Given as goal

abbrev pub invariant-loop-i : goal.invariant-loop-i
invariant-loop-i g l = Mapped g.K.Decides.codec (g.K.Decides.moved l.v l.o) l.count l.fn.work l.work l.i

-- `value::fill_each` meets its contract: the loop keeps `Vectoring`.
-- Assumes nothing.
use native.Mathlib.Omega.{arith}
use Rattle.cube.proofs.value.Valuing.{vectoring_none, vectoring_more}
use Rattle.cube.proofs.value.fill_each.Goals as goal

pub loop-a-init : goal.loop-a-init
loop-a-init c = search vectoring_none

pub loop-a-preserved : goal.loop-a-preserved
loop-a-preserved c = vectoring_more _ _ _ _ _ _ c.loop-a.invariant (omega arith) (omega arith) c.trues_at.ensures

-- `packing::put_number` meets its contract: the loop keeps `Front`.
-- Assumes nothing.
use mathlib.Core.Path.{refl}
use native.Mathlib.Omega.{arith}
use Rattle.bits.proofs.Front.{front_none, front_more, front_all}
use Rattle.bits.proofs.packing.put_number.Goals as goal

pub loop-j-init : goal.loop-j-init
loop-j-init c = front_none _ _

pub loop-j-preserved : goal.loop-j-preserved
loop-j-preserved c = front_more _ _ _ _ c.loop-j.invariant _ (omega (arith, c.loop-j.invariant.long)) refl

pub returns : goal.returns
returns c = front_all _ _ _ _ c.loop-j.invariant (omega (arith, c.loop-j.invariant.long))

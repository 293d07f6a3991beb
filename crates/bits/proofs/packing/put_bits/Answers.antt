-- `packing::put_bits` meets its contract: both loops keep `Front`.
-- Assumes nothing.
use mathlib.Core.Path.{refl, subst}
use native.Mathlib.Omega.{arith}
use Rattle.bits.proofs.Front.{Front, front_none, front_more, front_all}
use Rattle.bits.proofs.packing.Putting.{front_four}
use Rattle.bits.proofs.packing.put_bits.Goals as goal

pub loop-k-init : goal.loop-k-init
loop-k-init c = front_none _ _

pub loop-k-preserved : goal.loop-k-preserved
loop-k-preserved c =
    front_four _ _ _ _ c.loop-k.invariant _ (omega arith) _ refl (omega (arith, c.loop-k.invariant.long)) _ c.spread-four.result refl c.spread-four.ensures
    _ c.put_number.ensures

pub loop-j-init : goal.loop-j-init
loop-j-init c = subst (Front _ _ _) (omega (arith, c.loop-k.invariant.long)) c.loop-k.invariant

pub loop-j-preserved : goal.loop-j-preserved
loop-j-preserved c = front_more _ _ _ _ c.loop-j.invariant _ (omega (arith, c.loop-j.invariant.long, c.loop-k.invariant.long)) refl

pub returns : goal.returns
returns c = front_all _ _ _ _ c.loop-j.invariant (omega (arith, c.loop-j.invariant.long, c.loop-k.invariant.long))

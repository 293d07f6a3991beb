-- `copy` meets its contract: the loop keeps `Front` of the list.
-- Assumes nothing.
use mathlib.Core.Path.{refl, sym}
use native.Mathlib.Omega.{arith}
use Rattle.bits.proofs.Front.{front_none, front_more, front_list}
use Rattle.records.proofs.copy.Goals as goal

pub loop-k-init : goal.loop-k-init
loop-k-init c = front_none _ _

pub loop-k-preserved : goal.loop-k-preserved
loop-k-preserved c = front_more _ _ _ _ c.loop-k.invariant _ (omega (arith, c.loop-k.invariant.long)) refl

pub returns : goal.returns
returns c = front_list 0 _ _ (sym c.requires) _ _ c.loop-k.invariant (omega (arith, c.loop-k.invariant.long))

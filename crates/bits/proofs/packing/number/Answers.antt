-- `packing::number` meets its contract: the loop keeps `Numbering`.
-- Assumes nothing.
use native.Mathlib.Omega.{arith}
use Rattle.bits.proofs.packing.Spreading.{numbering_none, numbering_more, numbering_all}
use Rattle.bits.proofs.packing.number.Goals as goal

pub loop-j-init : goal.loop-j-init
loop-j-init c = numbering_none _

pub loop-j-preserved : goal.loop-j-preserved
loop-j-preserved c =
    numbering_more _ _ _ c.loop-j.invariant (λ i. omega (arith, c.type_inv.part i)) c.requires c.loop-j-test.true c.from.result c.from.ensures

pub returns : goal.returns
returns c = numbering_all _ _ _ c.loop-j.invariant c.loop-j-test.false

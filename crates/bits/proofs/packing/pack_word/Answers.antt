-- `packing::pack_word` meets its contract: both loops keep `PackingWord`.
-- Assumes nothing.
use mathlib.Core.Path.{refl, subst}
use native.Mathlib.Omega.{arith}
use Rattle.bits.proofs.packing.Packing.{PackingWord, packing_none, packing_more, packing_eight, packing_all}
use Rattle.bits.proofs.packing.pack_word.Goals as goal

pub loop-k-init : goal.loop-k-init
loop-k-init c = packing_none _ _ _

pub loop-k-preserved : goal.loop-k-preserved
loop-k-preserved c =
    packing_eight _ _ _ _ _ c.loop-k.invariant c.bytes_from-size.ensures _ (omega arith) (omega arith) c.requires
    _ _ refl refl c.pack_eight.result c.pack_eight.ensures

pub loop-j-init : goal.loop-j-init
loop-j-init c = subst (PackingWord _ _ _ _) (omega arith) c.loop-k.invariant

pub loop-j-preserved : goal.loop-j-preserved
loop-j-preserved c =
    packing_more _ _ _ _ _ c.loop-j.invariant c.bytes_from-size.ensures c.loop-j-test.true c.from.result c.from.ensures

pub returns : goal.returns
returns c = packing_all _ _ _ _ _ c.loop-j.invariant c.bytes_from-size.ensures c.loop-j-test.false

-- `value::value_bits` meets its contract.
-- Assumes nothing.
use Rattle.cube.proofs.CubeRecord.{masks_in}
use Rattle.cube.proofs.value.Valuing.{valuing_none, valuing_more, valuing_all}
use Rattle.cube.proofs.value.value_bits.Goals as goal

pub loop-i-init : goal.loop-i-init
loop-i-init c = valuing_none _

pub loop-i-preserved : goal.loop-i-preserved
loop-i-preserved c =
    let inside = c.loop-i-test.true in
    valuing_more _ _ _ c.loop-i.invariant inside _ (masks_in _ _ inside _ _ c.mask_at-seen.ensures c.mask_at-value.ensures) _ c.product_bits.ensures _ c.sum-w.ensures

pub returns : goal.returns
returns c = valuing_all _ _ _ c.loop-i.invariant c.loop-i-test.false

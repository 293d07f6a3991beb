-- `steps::reorder::masks_at` meets its contract.
-- Assumes nothing.
use Rattle.bits.proofs.Bits.{shl_one}
use Rattle.steps.proofs.reorder.ByMasks.{masks_made}
use Rattle.steps.proofs.reorder.masks_at.Goals as goal

pub returns : goal.returns
returns c =
    masks_made _ _ _ _ _ _ _ _ _ _ _ _ (shl_one _ _ c.requires) c.code_after.ensures c.literal-x.ensures c.code_after-2.ensures c.literal-y.ensures
    c.code_after-3.ensures c.literal-z.ensures c.word.ensures c.word-2.ensures c.word-3.ensures

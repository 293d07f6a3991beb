-- `Packed::put` meets its contract.
-- Assumes nothing.
use Rattle.bits.proofs.packed.Packing.{put_all}
use Rattle.bits.proofs.packed.Packed.put.Goals as goal

pub returns : goal.returns
returns c =
    put_all _ _ _ _ _ _ c.put_word.ensures c.put_word-2.ensures c.put_word-3.ensures c.put_word-4.ensures

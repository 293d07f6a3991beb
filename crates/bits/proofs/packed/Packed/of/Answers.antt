-- `Packed::of` meets its contract.
-- Assumes nothing.
use Rattle.bits.proofs.packed.Packing.{packed_is}
use Rattle.bits.proofs.packed.Packed.of.Goals as goal

pub returns : goal.returns
returns c = packed_is _ _ _ _ _ c.pack_word.ensures c.pack_word-2.ensures c.pack_word-3.ensures c.pack_word-4.ensures

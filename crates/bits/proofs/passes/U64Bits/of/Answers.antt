-- `of` of one word meets its contract.
-- Assumes nothing.
use mathlib.Core.Path.{sym, ap, ◌∙◌}
use Rattle.bits.specs.Packed.{alone}
use Rattle.bits.proofs.packed.Alone.{packed_alone}
use Rattle.bits.proofs.passes.U64Bits.of.Goals as goal

pub returns : goal.returns
returns c = ap alone c.pack_word.ensures ∙ sym (packed_alone _ c.requires)

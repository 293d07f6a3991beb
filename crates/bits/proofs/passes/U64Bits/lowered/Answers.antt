-- `lowered` of one word meets its contract.
-- Assumes nothing.
use mathlib.Core.Path.{sym, ap, ◌∙◌}
use Rattle.bits.specs.Packed.{alone}
use Rattle.bits.proofs.packed.Alone.{lowered_alone}
use Rattle.bits.proofs.passes.U64Bits.lowered.Goals as goal

pub returns : goal.returns
returns c = ap alone c.lower_word.ensures ∙ sym (lowered_alone _ _ c.requires)

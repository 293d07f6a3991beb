-- `raised` of one word meets its contract.
-- Assumes nothing.
use mathlib.Core.Path.{sym, ap, ◌∙◌}
use Rattle.bits.specs.Packed.{alone}
use Rattle.bits.proofs.packed.Alone.{raised_alone}
use Rattle.bits.proofs.passes.U64Bits.raised.Goals as goal

pub returns : goal.returns
returns c = ap alone c.raise_word.ensures ∙ sym (raised_alone _ _ c.requires)

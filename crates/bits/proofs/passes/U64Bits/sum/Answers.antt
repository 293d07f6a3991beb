-- `sum` of one word meets its contract.
-- Assumes nothing.
use mathlib.Core.Path.{refl}
use Rattle.bits.specs.Packed.{summed}
use Rattle.bits.proofs.passes.U64Bits.sum.Goals as goal

pub returns : goal.returns
unfolding summed
returns c = refl

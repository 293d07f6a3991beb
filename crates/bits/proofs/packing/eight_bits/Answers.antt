-- `packing::eight_bits` meets its contract.
-- Assumes nothing.
use native.Mathlib.Omega.{arith}
use Rattle.bits.proofs.packing.Spreading.{eight_are}
use Rattle.bits.proofs.packing.eight_bits.Goals as goal

pub returns : goal.returns
returns c =
    eight_are c.args.part.now c.requires (λ i. omega (arith, c.type_inv.part i)) _ c.number.ensures

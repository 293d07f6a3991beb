-- `packing::pack_eight` meets its contract.
-- Assumes nothing.
use mathlib.Core.Path.{ap, ◌∙◌}
use Prim.Native.Nat.{ℕ}
use native.Mathlib.Omega.{arith}
use lib.Bits.{bit_and}
use Rattle.bits.proofs.packing.Packing.{eight_lt, eight_spread}
use Rattle.bits.proofs.packing.pack_eight.Goals as goal

pub returns : goal.returns
returns c =
    let l = c.args.part.now in
    c.gather.ensures _ (eight_lt l)
    (ap (λ (x : ℕ). bit_and x 0x0101_0101_0101_0101) c.number.ensures
    ∙ eight_spread l c.requires (λ i. omega (arith, c.type_inv.part i)))

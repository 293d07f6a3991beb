-- `put` of one word meets its contract.
-- Assumes nothing.
use mathlib.Core.Path.{sym, ◌∙◌}
use native.Mathlib.Omega.{arith}
use Rattle.bits.specs.Packed.{alone, bit_at}
use Rattle.bits.specs.Bits.{bit}
use Rattle.bits.proofs.Below.{list_below_cong}
use Rattle.bits.proofs.packed.Alone.{alone_bit}
use Rattle.bits.proofs.passes.U64Bits.put.Goals as goal

pub returns : goal.returns
returns c =
    let x = c.args.self in
    c.put_bits.ensures ∙ list_below_cong _ (bit x) (bit_at (alone x)) (λ t h. sym (alone_bit x t (omega (arith, c.requires))))

-- `put` of four words meets its contract.
-- Assumes nothing.
use mathlib.Core.Path.{◌≡◌, ap₂, ◌∙◌}
use mathlib.Core.List.{List, ◌++◌, append-nil}
use Prim.Native.Nat.{ℕ, min}
use native.Mathlib.Omega.{arith}
use lib.ListN.{length, drop_of_length-le}
use Rattle.bits.specs.Below.{list_below}
use Rattle.bits.specs.Packed.{bit_at, put_bits}
use Rattle.bits.proofs.passes.PackedBits.put.Goals as goal

pub returns : goal.returns
unfolding put_bits
returns c =
    let b = c.args.out.now in
    let places : min 256 (length b) ≡ length b = omega (arith, c.requires) in
    c.put.ensures
    ∙ ap₂ (λ (k : ℕ) (rest : List ℕ). list_below k (bit_at c.args.self) ++ rest) places (drop_of_length-le b {i = 256} c.requires)
    ∙ append-nil _

-- `packing::put_bits` meets its contract: both loops keep `Front`.
-- Assumes nothing.
use Prim.Native.Nat.{◌*◌}
use Rattle.bits.specs.Bits.{bit}
use Rattle.bits.proofs.Front.{Front}
use Rattle.bits.proofs.packing.put_bits.Given as goal

abbrev pub invariant-loop-k : goal.invariant-loop-k
invariant-loop-k l = Front (bit l.w) l.fn.part l.part (4 * l.k)

abbrev pub invariant-loop-j : goal.invariant-loop-j
invariant-loop-j l = Front (bit l.w) l.fn.part l.part l.j

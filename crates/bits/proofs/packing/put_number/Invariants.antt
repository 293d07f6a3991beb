-- `packing::put_number` meets its contract: the loop keeps `Front`.
-- Assumes nothing.
use Rattle.bits.specs.Packed.{byte_of}
use Rattle.bits.proofs.Front.{Front}
use Rattle.bits.proofs.packing.put_number.Given as goal

abbrev pub invariant-loop-j : goal.invariant-loop-j
invariant-loop-j l = Front (byte_of l.x) l.initial.part l.part l.j

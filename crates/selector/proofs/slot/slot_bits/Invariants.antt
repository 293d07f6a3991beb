-- `slot::slot_bits` meets its contract: the loop keeps `Slotting`.
-- Assumes nothing.
use Rattle.selector.specs.Parts.{parts_of}
use Rattle.selector.proofs.Left.{Left}
use Rattle.selector.proofs.slot.Slotting.{Slotting}
use Rattle.selector.proofs.slot.slot_bits.Given as goal

abbrev pub invariant-loop-k : goal.invariant-loop-k
invariant-loop-k l =
    Slotting l.fn.n l.fn.lists.bytes.now l.fn.lists.lengths.now l.fn.a l.slot l.k-iterator.count
    × Left l.fn.lists.bytes.now l.fn.lists.lengths.now (parts_of l.k-iterator.iter.lengths.now l.k-iterator.iter.bytes.now) l.k-iterator.count

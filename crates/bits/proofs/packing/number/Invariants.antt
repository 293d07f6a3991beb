-- `packing::number` meets its contract: the loop keeps `Numbering`.
-- Assumes nothing.
use Rattle.bits.proofs.packing.Spreading.{Numbering}
use Rattle.bits.proofs.packing.number.Given as goal

abbrev pub invariant-loop-j : goal.invariant-loop-j
invariant-loop-j l = Numbering l.part l.x l.j

-- `packing::pack_word` meets its contract: both loops keep `PackingWord`.
-- Assumes nothing.
use Prim.Native.Nat.{◌*◌}
use Rattle.bits.proofs.packing.Packing.{PackingWord}
use Rattle.bits.proofs.packing.pack_word.Given as goal

abbrev pub invariant-loop-k : goal.invariant-loop-k
invariant-loop-k l = PackingWord l.bytes l.from l.size l.w (8 * l.k)

abbrev pub invariant-loop-j : goal.invariant-loop-j
invariant-loop-j l = PackingWord l.bytes l.from l.size l.w l.j

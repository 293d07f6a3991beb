-- `with_bytes` meets its contract: the loop keeps `Passing`.
-- Assumes nothing.
use Rattle.cksum.proofs.Remainders.{Passing}
use Rattle.cksum.proofs.with_bytes.Given as goal

abbrev pub invariant-loop-byte : goal.invariant-loop-byte
invariant-loop-byte l = Passing l.crc l.bytes l.c l.byte-index

-- `with_byte` meets its contract: the loop keeps `Turning`.
-- Assumes nothing.
use Rattle.cksum.proofs.Remainders.{Turning}
use Rattle.cksum.proofs.with_byte.Given as goal

abbrev pub invariant-loop-turned : goal.invariant-loop-turned
invariant-loop-turned l = Turning l.crc l.b l.c l._turned

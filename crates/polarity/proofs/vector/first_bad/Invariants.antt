-- `vector::first_bad` meets its contract: the loop keeps `Looking`, and goes on by strides.
-- Assumes nothing.
use Prim.Native.Nat.{◌-◌}
use lib.ListN.{length}
use Rattle.records.proofs.Records.{bytes}
use Rattle.records.proofs.Looking.{Looking}
use Rattle.polarity.specs.Vectors.{is_bit}
use Rattle.polarity.proofs.vector.first_bad.Given as goal

abbrev pub invariant-loop-i : goal.invariant-loop-i
invariant-loop-i l = Looking bytes is_bit l.bytes l.i

abbrev pub decreases-loop-i : goal.decreases-loop-i
decreases-loop-i l = length l.bytes - l.i

-- `check::first_bad` meets its contract: the loop keeps `Looking`.
-- Assumes nothing.
use Prim.Native.Nat.{◌-◌, ◌/◌}
use lib.ListN.{length}
use Rattle.records.proofs.Looking.{Looking}
use Rattle.script.specs.Scripts.{step_records, step_width}
use Rattle.script.proofs.check.first_bad.Given as goal

abbrev pub invariant-loop-k : goal.invariant-loop-k
invariant-loop-k g l = Looking step_records (g.K.Runnable.fits l.n) l.script l.k

abbrev pub decreases-loop-k : goal.decreases-loop-k
decreases-loop-k g l = length l.script / step_width - l.k

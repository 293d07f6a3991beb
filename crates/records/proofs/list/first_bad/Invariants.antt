-- `list::first_bad` meets its contract: the loop keeps `Looking`, and goes on by strides.
-- Assumes nothing.
use Prim.Native.Nat.{◌-◌}
use Rattle.records.proofs.Looking.{Looking}
use Rattle.records.proofs.list.first_bad.Given as goal

abbrev pub invariant-loop-i : goal.invariant-loop-i
invariant-loop-i g l = Looking g.K.Kind.codec (g.K.Kind.good l.n) l.list l.i

abbrev pub decreases-loop-i : goal.decreases-loop-i
decreases-loop-i g l = l.count - l.i

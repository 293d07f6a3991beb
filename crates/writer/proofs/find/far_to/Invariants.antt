-- `find::far_to` meets its contract: the loop keeps `NoneTo`.
-- Assumes nothing.
use Prim.Native.Nat.{◌-◌}
use Rattle.bits.specs.Below.{NoneTo}
use Rattle.cube.specs.Lists.{cubes_of}
use Rattle.writer.specs.Watching.{near_at}
use Rattle.writer.proofs.find.far_to.Given as goal

abbrev pub invariant-loop-i : goal.invariant-loop-i
invariant-loop-i l = NoneTo (near_at l.c (cubes_of l.list)) l.from l.end l.i

abbrev pub decreases-loop-i : goal.decreases-loop-i
decreases-loop-i l = l.end - l.i

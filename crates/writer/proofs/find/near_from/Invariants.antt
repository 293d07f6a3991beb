-- `find::near_from` meets its contract: the loop keeps `NoneTo`.
-- Assumes nothing.
use Rattle.bits.specs.Below.{NoneTo}
use Rattle.cube.specs.Lists.{cubes_of}
use Rattle.writer.specs.Watching.{near_at}
use Rattle.writer.proofs.find.near_from.Given as goal

abbrev pub invariant-loop-i : goal.invariant-loop-i
invariant-loop-i l = NoneTo (near_at l.c (cubes_of l.list)) l.from l.end l.i

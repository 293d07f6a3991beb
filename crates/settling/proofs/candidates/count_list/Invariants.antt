-- `candidates::count_list` meets its contract: the loop keeps `Counting`.
-- Assumes nothing.
use Rattle.records.proofs.Counting.{Counting}
use Rattle.cube.specs.Lists.{cubes}
use Rattle.cube.specs.Cubes.{bare}
use Rattle.settling.proofs.candidates.count_list.Given as goal

abbrev pub invariant-loop-i : goal.invariant-loop-i
invariant-loop-i l = Counting cubes bare l.list l.bare l.i

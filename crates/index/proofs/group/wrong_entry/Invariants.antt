-- `group::wrong_entry` meets its contract: the loop keeps `Comparing`.
-- Assumes nothing.
use Rattle.cube.specs.Lists.{cubes_of}
use Rattle.index.specs.Index.{literals_at}
use Rattle.index.proofs.group.Comparing.{Comparing}
use Rattle.index.proofs.group.wrong_entry.Given as goal

abbrev pub invariant-loop-p : goal.invariant-loop-p
invariant-loop-p l = Comparing (literals_at (cubes_of l.list)) l.count l.index l.next l.bad l.p

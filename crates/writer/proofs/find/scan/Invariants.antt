-- `find::scan` meets its contract: the loop keeps `Rows`.
-- Assumes nothing.
use Rattle.records.specs.Records.{records}
use Rattle.cube.specs.Lists.{cubes}
use Rattle.writer.proofs.Scanning.{Rows}
use Rattle.writer.proofs.find.scan.Given as goal

abbrev pub invariant-loop-i : goal.invariant-loop-i
invariant-loop-i l = Rows l.n (records cubes l.count l.work) l.fn.marks l.i l.marks

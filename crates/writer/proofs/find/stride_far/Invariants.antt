-- `find::stride_far` meets its contract: the loop keeps `InStride`.
-- Assumes nothing.
use mathlib.Core.Bool.{not}
use Rattle.records.proofs.Striding.{InStride}
use Rattle.cube.specs.Checking.{stride}
use Rattle.cube.specs.Lists.{cubes}
use Rattle.writer.specs.Watching.{near}
use Rattle.writer.proofs.find.stride_far.Given as goal

abbrev pub invariant-loop-k : goal.invariant-loop-k
invariant-loop-k l = InStride cubes (λ d. not (near l.c d)) l.list stride l.i l.far l.k

-- `find::stride_far` meets its contract: the loop keeps `InStride`.
-- Assumes nothing.
use mathlib.Core.Path.{refl, ap}
use mathlib.Core.Bool.{not}
use native.Mathlib.Omega.{arith}
use Rattle.records.proofs.Striding.{stride_none, stride_more, stride_end}
use Rattle.cube.specs.Checking.{stride}
use Rattle.cube.specs.Lists.{cubes}
use Rattle.writer.proofs.find.stride_far.Goals as goal

pub loop-k-init : goal.loop-k-init
loop-k-init c = stride_none cubes _ _ stride _ (omega (arith, c.requires))

pub loop-k-preserved : goal.loop-k-preserved
loop-k-preserved c =
    stride_more cubes _ _ stride _ _ _ c.loop-k.invariant c.loop-k-test.true _ refl _ (ap not c.near_at.ensures)

pub returns : goal.returns
returns c = stride_end cubes _ _ stride _ _ _ c.loop-k.invariant (omega (arith, c.loop-k-test.false))

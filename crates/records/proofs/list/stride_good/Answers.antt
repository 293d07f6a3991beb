-- `list::stride_good` meets its contract: the loop keeps `InStride`.
-- Assumes nothing.
use native.Mathlib.Omega.{arith}
use Rattle.records.specs.Kinds.{stride}
use Rattle.records.proofs.Striding.{stride_short, stride_end}
use Rattle.records.proofs.list.stride_good.Goals as goal

pub returns-then-count-i-lt-STRIDE : goal.returns-then-count-i-lt-STRIDE
returns-then-count-i-lt-STRIDE g c =
    stride_short g.K.Kind.codec (g.K.Kind.good c.args.n) _ stride _ (omega (arith, c.count.ensures, c.if-count-i-lt-STRIDE.true))

pub returns : goal.returns
returns g c = stride_end g.K.Kind.codec (g.K.Kind.good c.args.n) _ stride _ _ _ c.loop-k.invariant (omega arith)

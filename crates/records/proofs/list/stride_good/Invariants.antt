-- `list::stride_good` meets its contract: the loop keeps `InStride`.
-- Assumes nothing.
use Rattle.records.specs.Kinds.{stride}
use Rattle.records.proofs.Striding.{InStride}
use Rattle.records.proofs.list.stride_good.Given as goal

abbrev pub invariant-loop-k : goal.invariant-loop-k
invariant-loop-k g l = InStride g.K.Kind.codec (g.K.Kind.good l.n) l.list stride l.i l.all l.k

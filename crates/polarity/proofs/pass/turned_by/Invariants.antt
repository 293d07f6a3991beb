-- `pass::turned_by` meets its contract: the passes of the variables below k are done.
-- Assumes nothing.
use Rattle.std.proofs.Common.{◌≡◌}
use Rattle.polarity.specs.Words.{passed, turned_at}
use Rattle.polarity.proofs.pass.turned_by.Given as goal

abbrev pub invariant-loop-k : goal.invariant-loop-k
invariant-loop-k g l = g.B.Bits.shown l.next ≡ passed (turned_at l.p) l.k (g.B.Bits.shown l.fn.bits)

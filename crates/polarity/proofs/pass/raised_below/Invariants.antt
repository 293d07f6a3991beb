-- `pass::raised_below` meets its contract: the passes of the variables below k are done.
-- Assumes nothing.
use Rattle.std.proofs.Common.{◌≡◌}
use Rattle.bits.specs.Packed.{raised}
use Rattle.polarity.specs.Words.{passed}
use Rattle.polarity.proofs.pass.raised_below.Given as goal

abbrev pub invariant-loop-k : goal.invariant-loop-k
invariant-loop-k g l = g.B.Bits.shown l.next ≡ passed raised l.k (g.B.Bits.shown l.fn.bits)

-- `pass::raised_below` meets its contract: the passes of the variables below k are done.
-- Assumes nothing.
use mathlib.Core.Path.{refl}
use Rattle.polarity.specs.Words.{passed}
use Rattle.polarity.proofs.transform.Turning.{passed_more}
use Rattle.polarity.proofs.pass.raised_below.Goals as goal

pub loop-k-init : goal.loop-k-init
unfolding passed
loop-k-init g c = refl

pub loop-k-preserved : goal.loop-k-preserved
loop-k-preserved g c = passed_more _ _ _ _ _ c.loop-k.invariant c.raised-next.ensures

-- `pass::turned_at` meets its contract.
-- Assumes nothing.
use Rattle.polarity.proofs.transform.Turning.{turned_not, turned_is}
use Rattle.polarity.proofs.pass.turned_at.Goals as goal

pub returns-then-p-k-eq0 : goal.returns-then-p-k-eq0
returns-then-p-k-eq0 g c = turned_not _ _ _ c.if-p-k-eq0.true

pub returns : goal.returns
returns g c = turned_is _ _ _ c.if-p-k-eq0.false _ c.lowered.ensures

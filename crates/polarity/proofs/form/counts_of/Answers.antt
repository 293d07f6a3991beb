-- `form::counts_of` meets its contract.
-- Assumes nothing.
use Rattle.polarity.proofs.Shown.{counts_are}
use Rattle.polarity.proofs.form.counts_of.Goals as goal

pub returns : goal.returns
returns c = counts_are _ _ c.ones.ensures

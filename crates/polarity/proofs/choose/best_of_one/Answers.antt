-- `choose::best_of_one` meets its contract.
-- Assumes nothing.
use mathlib.Core.Path.{ap, ◌∙◌}
use Rattle.polarity.specs.Words.{counts_in}
use Rattle.polarity.proofs.choose.Search.{one_is}
use Rattle.polarity.proofs.choose.best_of_one.Goals as goal

pub returns : goal.returns
returns g c = one_is _ _ _ _ (c.counts_of.ensures ∙ ap counts_in c.words.ensures) c.rank.ensures

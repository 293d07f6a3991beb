-- `choose::best_of_eight` meets its contract.
-- Assumes nothing.
use mathlib.Core.Path.{refl}
use Rattle.polarity.proofs.choose.Search.{halves_are}
use Rattle.polarity.proofs.choose.best_of_eight.Goals as goal

pub returns : goal.returns
returns g c = halves_are 2 4 _ refl _ _ c.lowered.ensures _ _ _ c.best_of_four.ensures c.best_of_four-2.ensures c.lesser_of.ensures

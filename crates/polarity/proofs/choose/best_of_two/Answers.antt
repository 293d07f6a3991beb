-- `choose::best_of_two` meets its contract.
-- Assumes nothing.
use mathlib.Core.Path.{refl}
use Rattle.polarity.proofs.choose.Search.{halves_are}
use Rattle.polarity.proofs.choose.best_of_two.Goals as goal

pub returns : goal.returns
returns g c = halves_are 0 1 _ refl _ _ c.lowered.ensures _ _ _ c.best_of_one.ensures c.best_of_one-2.ensures c.lesser_of.ensures

-- `choose::best_of_four` meets its contract.
-- Assumes nothing.
use mathlib.Core.Path.{refl}
use Rattle.polarity.proofs.choose.Search.{halves_are}
use Rattle.polarity.proofs.choose.best_of_four.Goals as goal

pub returns : goal.returns
returns g c = halves_are 1 2 _ refl _ _ c.lowered.ensures _ _ _ c.best_of_two.ensures c.best_of_two-2.ensures c.lesser_of.ensures

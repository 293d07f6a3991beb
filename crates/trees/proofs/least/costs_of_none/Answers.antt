-- `least::costs_of_none` meets its contract.
-- Assumes nothing.
use mathlib.Core.Path.{refl}
use Rattle.trees.proofs.least.costs_of_none.Goals as goal

pub returns : goal.returns
returns c = refl

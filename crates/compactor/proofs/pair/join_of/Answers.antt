-- `pair::join_of` meets its contract.
-- Assumes nothing.
use mathlib.Core.Path.{refl}
use Rattle.compactor.proofs.pair.join_of.Goals as goal

pub returns : goal.returns
returns c = refl

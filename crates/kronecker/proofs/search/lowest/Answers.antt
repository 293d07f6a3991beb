-- `search::lowest` meets its contract.
-- Assumes nothing.
use mathlib.Core.Path.{refl}
use Rattle.kronecker.proofs.search.lowest.Goals as goal

pub returns : goal.returns
returns c = refl

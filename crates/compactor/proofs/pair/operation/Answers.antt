-- `pair::operation` meets its contract.
-- Assumes nothing.
use mathlib.Core.Path.{refl}
use Rattle.compactor.proofs.pair.operation.Goals as goal

pub returns : goal.returns
returns c = refl

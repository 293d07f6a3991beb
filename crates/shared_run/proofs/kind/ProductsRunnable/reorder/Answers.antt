-- An order of the codes at a variable, in every product.
-- Assumes nothing.
use mathlib.Core.Path.{◌≡◌}
use mathlib.Core.Bool.{true}
use Rattle.bits.proofs.Sums.{all_each}
use Rattle.cube.specs.Lists.{most_variables}
use Rattle.shared.specs.SharedRecord.{fine, Fine}
use Rattle.shared.proofs.SharedRecord.{fine_parts}
use Rattle.shared_run.proofs.kind.ProductsRunnable.reorder.Goals as goal

pub reorder-requires-clause-all : goal.reorder-requires-clause-all
reorder-requires-clause-all c = all_each (λ r. fine most_variables r ≡ true) (Fine most_variables) (fine_parts most_variables) _ c.requires.all

-- An order of the codes at a variable, in every cube.
-- Assumes nothing.
use mathlib.Core.Path.{◌≡◌}
use mathlib.Core.Bool.{true}
use Rattle.bits.proofs.Sums.{all_each}
use Rattle.cube.specs.Cubes.{good, Good}
use Rattle.cube.specs.Lists.{most_variables}
use Rattle.cube.proofs.Codes.{good_parts}
use Rattle.script.proofs.kind.CubesRunnable.reorder.Goals as goal

pub reorder-requires-clause-all : goal.reorder-requires-clause-all
reorder-requires-clause-all c = all_each (λ a. good most_variables a ≡ true) (Good most_variables) (good_parts most_variables) _ c.requires.all

-- `Cube::differing` meets its contract: for good cubes the bits are the variables whose codes differ.
-- Assumes nothing.
use mathlib.Core.Path.{refl}
use Rattle.cube.specs.Cubes.{differing}
use Rattle.cube.proofs.Masks.{differing_is}
use Rattle.cube.proofs.Cube.differing.Goals as goal

pub returns : goal.returns
unfolding differing
returns c = record { means = λ n g h. differing_is n _ _ g h; fixed = refl }

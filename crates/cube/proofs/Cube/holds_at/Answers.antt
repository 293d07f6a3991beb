-- `Cube::holds_at` meets its contract: for a good cube the masked comparison is the product's truth.
-- Assumes nothing.
use mathlib.Core.Path.{refl, sym}
use Rattle.cube.proofs.Masks.{holds_mask}
use Rattle.cube.proofs.Cube.holds_at.Goals as goal

pub returns : goal.returns
returns c = record { means = λ n g h. sym (holds_mask n _ _ g h); fixed = refl }

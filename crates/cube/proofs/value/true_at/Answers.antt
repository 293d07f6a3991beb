-- `value::true_at` meets its contract: the cube that its masks make.
-- Assumes nothing.
use mathlib.Core.Path.{subst}
use Rattle.cube.specs.Cubes.{HoldsAt}
use Rattle.cube.proofs.CubeRecord.{masks_in}
use Rattle.cube.specs.declared.Cube.{Cube}
use Rattle.cube.proofs.value.true_at.Goals as goal

pub returns : goal.returns
returns c =
    subst (λ (d : Cube). HoldsAt d c.args.a c.holds_at.result)
    (masks_in c.args.list.now c.args.i c.requires _ _ c.mask_at-seen.ensures c.mask_at-value.ensures) c.holds_at.ensures

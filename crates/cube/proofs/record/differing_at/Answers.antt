-- `record::differing_at` meets its contract: the cube that its masks make.
-- Assumes nothing.
use mathlib.Core.Path.{subst}
use Rattle.cube.specs.declared.Cube.{Cube}
use Rattle.cube.specs.Cubes.{DiffersIn}
use Rattle.cube.proofs.CubeRecord.{masks_in}
use Rattle.cube.proofs.record.differing_at.Goals as goal

pub returns : goal.returns
returns c =
    subst (λ (d : Cube). DiffersIn c.args.c d c.differing.result)
    (masks_in c.args.list.now c.args.i c.requires _ _ c.mask_at-seen.ensures c.mask_at-value.ensures) c.differing.ensures

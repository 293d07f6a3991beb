-- `Cubes::write` meets its contract.
-- Assumes nothing.
use mathlib.Core.Path.{◌∙◌}
use Rattle.cube.specs.CubeRecord.{cubes}
use Rattle.cube.specs.Kinds.{cubes_laws}
use Rattle.records.proofs.Items.{item_whole}
use Rattle.cube.proofs.record.CubesKind.write.Goals as goal

pub returns : goal.returns
returns c = c.put_in.ensures ∙ item_whole cubes cubes_laws _ _ c.requires.width

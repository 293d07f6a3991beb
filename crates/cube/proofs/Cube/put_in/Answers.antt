-- `Cube::put_in` meets its contract.
-- Assumes nothing.
use Rattle.cube.proofs.CubeRecord.{both_stored}
use Rattle.cube.proofs.Cube.put_in.Goals as goal

pub returns : goal.returns
returns c = search both_stored

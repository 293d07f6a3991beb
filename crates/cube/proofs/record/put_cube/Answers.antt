-- `record::put_cube` meets its contract.
-- Assumes nothing.
use Rattle.cube.proofs.CubeRecord.{cube_not_stored}
use Rattle.cube.proofs.record.put_cube.Goals as goal

pub returns-then-list-i : goal.returns-then-list-i
returns-then-list-i c = search cube_not_stored

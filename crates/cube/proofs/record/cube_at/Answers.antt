-- `record::cube_at` meets its contract.
-- Assumes nothing.
use Rattle.cube.proofs.CubeRecord.{cube_past}
use Rattle.cube.proofs.record.cube_at.Goals as goal

pub returns-then-list-i : goal.returns-then-list-i
returns-then-list-i c = search cube_past

-- `record::bare_at` meets its contract.
-- Assumes nothing.
use Rattle.cube.proofs.CubeRecord.{seen_in, bare_past}
use Rattle.cube.proofs.record.bare_at.Goals as goal

pub returns-then-list-i : goal.returns-then-list-i
returns-then-list-i c = search bare_past

pub returns : goal.returns
returns c = search seen_in

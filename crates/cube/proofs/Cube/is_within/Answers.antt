-- `Cube::is_within` meets its contract.
-- Assumes nothing.
use Rattle.cube.proofs.Codes.{both_within}
use Rattle.cube.proofs.Cube.is_within.Goals as goal

pub returns : goal.returns
returns c = both_within c.args.self c.args.set

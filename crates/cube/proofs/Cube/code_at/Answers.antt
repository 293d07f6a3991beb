-- `Cube::code_at` meets its contract.
-- Assumes nothing.
use Rattle.cube.proofs.Codes.{code_made}
use Rattle.cube.proofs.Cube.code_at.Goals as goal
use Rattle.cube.proofs.Cube.code_at.Goals.{After-bit-value}

-- what is taken from 2 is at most 2

pub returns : goal.returns
returns c = code_made _ _ _ _ c.bit-seen.ensures c.bit-value.ensures

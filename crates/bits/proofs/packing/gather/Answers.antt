-- `packing::gather` meets its contract.
-- Assumes nothing.
use Rattle.bits.proofs.packing.Spreading.{gathered}
use Rattle.bits.proofs.packing.gather.Goals as goal

pub returns : goal.returns
returns c = gathered c.args.x

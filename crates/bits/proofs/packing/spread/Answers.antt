-- `packing::spread` meets its contract: one computed test.
-- Assumes nothing.
use Rattle.bits.proofs.packing.Spreading.{spread_four}
use Rattle.bits.proofs.packing.spread.Goals as goal

pub returns : goal.returns
returns c = spread_four c.args.x c.requires

-- `steps::decide::only` meets its contract.
-- Assumes nothing.
use Rattle.bits.proofs.Bits.{shl_one}
use Rattle.steps.proofs.decide.only.Goals as goal

pub returns : goal.returns
returns c = search shl_one

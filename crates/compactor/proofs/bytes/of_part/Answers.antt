-- `bytes::of_part` meets its contract.
-- Assumes nothing.
use Rattle.compactor.proofs.StepBytes.{both_read}
use Rattle.compactor.proofs.bytes.of_part.Goals as goal

pub returns : goal.returns
returns c = search both_read

-- `bytes::put_in` meets its contract.
-- Assumes nothing.
use Rattle.compactor.proofs.StepBytes.{both_stored}
use Rattle.compactor.proofs.bytes.put_in.Goals as goal

pub returns : goal.returns
returns c = search both_stored

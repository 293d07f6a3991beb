-- `bytes::put_halves` meets its contract: what is stored over a step's part of the output are its halves stored.
-- Assumes nothing.
use Rattle.compactor.proofs.StepBytes.{halves_stored}
use Rattle.compactor.proofs.bytes.put_halves.Goals as goal

pub returns : goal.returns
returns c = search halves_stored

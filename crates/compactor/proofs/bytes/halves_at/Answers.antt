-- `bytes::halves_at` meets its contract: what is read from a step's part of the script are its halves.
-- Assumes nothing.
use Rattle.compactor.proofs.StepBytes.{halves_in}
use Rattle.compactor.proofs.bytes.halves_at.Goals as goal

pub returns : goal.returns
returns c = search halves_in

-- `steps::decide::third_at` meets its contract.
-- Assumes nothing.
use Rattle.steps.proofs.decide.Deciding.{third_made}
use Rattle.steps.proofs.decide.third_at.Goals as goal

pub returns : goal.returns
returns c = search third_made

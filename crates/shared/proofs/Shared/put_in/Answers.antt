-- `Shared::put_in` meets its contract.
-- Assumes nothing.
use Rattle.shared.proofs.SharedRecord.{outputs_stored}
use Rattle.shared.proofs.Shared.put_in.Goals as goal

pub returns : goal.returns
returns c = search outputs_stored

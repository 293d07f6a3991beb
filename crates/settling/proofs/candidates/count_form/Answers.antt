-- `candidates::count_form` meets its contract.
-- Assumes nothing.
use Rattle.settling.proofs.candidates.Choosing.{form_counted}
use Rattle.settling.proofs.candidates.count_form.Goals as goal

pub returns : goal.returns
returns c = form_counted _ _ _

-- `check::fits` meets its contract.
-- Assumes nothing.
use Rattle.shared_run.proofs.SharedScripts.{merge_row, plain_row}
use Rattle.shared_run.proofs.check.fits.Goals as goal

pub returns-then-op-eq-MERGE : goal.returns-then-op-eq-MERGE
returns-then-op-eq-MERGE c = search merge_row

pub returns : goal.returns
returns c = search plain_row

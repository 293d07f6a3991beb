-- `record::step_at` meets its contract.
-- Assumes nothing.
use Rattle.script.proofs.record.Reading.{step_past, step_in}
use Rattle.script.proofs.record.step_at.Goals as goal

pub returns-then-script-k : goal.returns-then-script-k
returns-then-script-k c = search step_past

pub returns : goal.returns
returns c = search step_in

-- `check::first_bad` meets its contract: the loop keeps `Looking`.
-- Assumes nothing.
use Rattle.records.proofs.Looking.{looking_none, looking_next, found_none, found_bad}
use Rattle.script.specs.Scripts.{step_records}
use Rattle.script.proofs.check.first_bad.Goals as goal

pub loop-k-init : goal.loop-k-init
loop-k-init g c = search looking_none

pub loop-k-preserved : goal.loop-k-preserved
loop-k-preserved g c = search looking_next

pub returns-then-count-k : goal.returns-then-count-k
returns-then-count-k g c = found_none step_records (g.K.Runnable.fits _) _ _ c.loop-k.invariant c.if-count-k.true

pub returns-then-not-fits : goal.returns-then-not-fits
returns-then-not-fits g c = search found_bad

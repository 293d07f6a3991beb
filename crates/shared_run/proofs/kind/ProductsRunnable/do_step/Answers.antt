-- A step on a list of shared products, in the words of a list that a script runs on.
-- Assumes nothing.
use Rattle.script.proofs.Carrying.{carries_ready, did}
use Rattle.shared.specs.SharedRecord.{shares, fine, Fine}
use Rattle.shared.proofs.SharedRecord.{fine_parts, parts_fine}
use Rattle.shared_steps.specs.SharedSteps.{SharedAllowed, shared_meaning, shared_step}
use Rattle.shared_steps.proofs.Kept.{shares_stepwise}
use Rattle.shared_run.proofs.SharedScripts.{shared_known}
use Rattle.shared_run.proofs.kind.ProductsRunnable.do_step.Goals as goal

pub do_step-requires : goal.do_step-requires
do_step-requires c =
    let a = c.args in
    record {
      shared_ready = carries_ready shares (fine a.n) (Fine a.n) a.n a.count a.cap a.work.now (fine_parts a.n) c.requires.ready;
      shared_known = shared_known a.n a.x c.requires.fits;
    }

pub returns : goal.returns
returns c =
    let a = c.args in
    let ready = carries_ready shares (fine a.n) (Fine a.n) a.n a.count a.cap a.work.now (fine_parts a.n) c.requires.ready in
    let d = did shares (shared_step a.n a.cap) (fine a.n) (Fine a.n) (SharedAllowed a.n) a.n a.cap (shares_stepwise a.n a.cap) a.count a.work.now _ (shared_meaning a.x) ready
    (shared_known a.n a.x c.requires.fits).fits (parts_fine a.n) _ c.do_step.ensures.value c.do_step.ensures.work_after in
    record { done = d.done; most = d.most; ready = d.ready; refused = d.refused; kept = d.kept; length = d.long }

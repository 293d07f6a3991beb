-- A step on a list of cubes, in the words of a list that a script runs on.
-- Assumes nothing.
use Rattle.cube.specs.Cubes.{good, Good}
use Rattle.cube.specs.Lists.{cubes}
use Rattle.cube.proofs.Codes.{good_parts, parts_good}
use Rattle.steps.specs.Steps.{Allowed, meaning, step}
use Rattle.steps.proofs.step.Stepping.{cubes_stepwise}
use Rattle.script.proofs.Carrying.{carries_ready, did}
use Rattle.script.proofs.Scripts.{fits_known, meaning_fits}
use Rattle.script.proofs.kind.CubesRunnable.do_step.Goals as goal

pub do_step-requires : goal.do_step-requires
do_step-requires c =
    let a = c.args in record { ready = carries_ready cubes (good a.n) (Good a.n) a.n a.count a.cap a.work.now (good_parts a.n) c.requires.ready; known = fits_known a.n a.x c.requires.fits }

pub returns : goal.returns
returns c =
    let a = c.args in
    let ready = carries_ready cubes (good a.n) (Good a.n) a.n a.count a.cap a.work.now (good_parts a.n) c.requires.ready in
    let d = did cubes (step a.n a.cap) (good a.n) (Good a.n) (Allowed a.n) a.n a.cap (cubes_stepwise a.n a.cap) a.count a.work.now _ (meaning a.x) ready
    (meaning_fits a.n a.x c.requires.fits) (parts_good a.n) _ c.do_step.ensures.value c.do_step.ensures.work_after in
    record { done = d.done; most = d.most; ready = d.ready; refused = d.refused; kept = d.kept; length = d.long }

-- `check::check_script_on` meets its contract: each return is the first test that fails.
-- Assumes nothing.
use mathlib.Core.Path.{refl}
use native.Mathlib.Omega.{arith}
use Rattle.records.proofs.Checks.{records_cut, records_many, records_bad, records_good}
use Rattle.script.specs.Scripts.{step_records, most_steps}
use Rattle.script.proofs.check.check_script_on.Goals as goal

pub returns-then-script-ne0 : goal.returns-then-script-ne0
returns-then-script-ne0 g c =
    let a = c.args in
    let fits = g.K.Runnable.fits a.n in
    records_cut step_records fits 7 8 9 most_steps a.script.now _ refl _ c.at.ensures (omega arith)

pub returns-then-count-gt-MOST_STEPS : goal.returns-then-count-gt-MOST_STEPS
returns-then-count-gt-MOST_STEPS g c =
    let a = c.args in
    let fits = g.K.Runnable.fits a.n in
    records_many step_records fits 7 8 9 most_steps a.script.now _ refl (omega arith) _ c.at-then-count-gt-MOST_STEPS.ensures (omega arith)

pub returns-then-bad-count : goal.returns-then-bad-count
returns-then-bad-count g c =
    let a = c.args in
    let fits = g.K.Runnable.fits a.n in
    records_bad step_records fits 7 8 9 most_steps a.script.now _ refl (omega arith) (omega arith) _ c.first_bad-bad.ensures _ c.at-then-bad-count.ensures (omega arith)

pub returns : goal.returns
returns g c =
    let a = c.args in
    let fits = g.K.Runnable.fits a.n in
    records_good step_records fits 7 8 9 most_steps a.script.now _ refl (omega arith) (omega arith) _ c.first_bad-bad.ensures (omega arith)

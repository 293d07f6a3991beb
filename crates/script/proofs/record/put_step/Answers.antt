-- `record::put_step` meets its contract: the stores in a row are the record stored.
-- Assumes nothing.
use native.Mathlib.Omega.{arith}
use lib.ListN.{length-set}
use Rattle.script.proofs.record.Reading.{step_not_stored, step_long_kept, step_stored}
use borrow.Author.Rules.{rules}
use Rattle.script.proofs.record.put_step.Goals as goal

pub returns-then-script-k : goal.returns-then-script-k
returns-then-script-k c = search step_not_stored

pub bounds-script-at-2 : goal.bounds-script-at-2
bounds-script-at-2 c = simp length-set (omega arith)

pub bounds-script-at-3 : goal.bounds-script-at-3
bounds-script-at-3 c =
    let s = c.args in
    omega (arith, step_long_kept s.script.now s.k s.x _ c.put_number2.ensures _ c.put_number2-2.ensures)

pub bounds-script-at-4 : goal.bounds-script-at-4
bounds-script-at-4 c =
    let s = c.args in
    simp length-set (omega (arith, step_long_kept s.script.now s.k s.x _ c.put_number2.ensures _ c.put_number2-2.ensures))

pub shape_of-script : goal.shape_of-script
shape_of-script c =
    let s = c.args in
    simp length-set (step_long_kept s.script.now s.k s.x _ c.put_number2.ensures _ c.put_number2-2.ensures)

pub returns : goal.returns
returns c = step_stored _ _ _ (search rules) _ c.put_number2.ensures _ c.put_number2-2.ensures

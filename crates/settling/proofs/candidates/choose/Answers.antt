-- `candidates::choose` meets its contract.
-- Assumes nothing.
use Rattle.settling.proofs.candidates.Choosing.{form_inside, chosen_two, chosen_four}
use native.Mathlib.Omega.{arith}
use Rattle.settling.proofs.candidates.choose.Goals as goal

pub count_list-requires : goal.count_list-requires
count_list-requires c = omega (arith, c.requires.result_short, c.requires.list_short)

pub count_list-requires-2 : goal.count_list-requires-2
count_list-requires-2 c = omega (arith, c.requires.result_short, c.requires.list_short)

pub count_form-requires : goal.count_form-requires
count_form-requires c = form_inside _ _ _ c.requires.best_is _ _ c.in-Some.is

pub returns-in-None : goal.returns-in-None
returns-in-None c =
    chosen_two _ _ _ _ c.requires.best_is _ c.count_list.ensures _ c.candidate-script.ensures _ c.count_list-2.ensures _ c.candidate-given.ensures
    _ c.better-two.ensures c.in-None.is

pub returns-in-Some : goal.returns-in-Some
returns-in-Some c =
    chosen_four _ _ _ _ c.requires.best_is _ c.count_list.ensures _ c.candidate-script.ensures _ c.count_list-2.ensures _ c.candidate-given.ensures
    _ c.better-two.ensures _ _ c.in-Some.is _ c.count_form.ensures _ c.candidate-form.ensures
    _ c.candidate-tree.ensures _ c.better.ensures _ c.better-in-Some.ensures

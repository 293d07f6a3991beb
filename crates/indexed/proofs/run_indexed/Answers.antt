-- `run_indexed` meets its contract.
-- Assumes nothing.
use mathlib.Core.Path.{sym, ap, ◌∙◌}
use Rattle.records.specs.Answers.{counted}
use Rattle.indexed.proofs.Finishing.{run_accepts, index_fits, whole_refused, whole_run}
use Rattle.indexed.proofs.run_indexed.Goals as goal

pub run_accepted-requires : goal.run_accepted-requires
run_accepted-requires c = let e = sym c.check_indexed.ensures ∙ ap counted c.in-Ok.is in record { accepts = run_accepts _ _ _ _ _ _ e; work_in_bounds = index_fits _ _ _ _ _ _ e }

pub returns-in-Err : goal.returns-in-Err
returns-in-Err c =
    let r = whole_refused _ _ _ _ _ _ (sym c.check_indexed.ensures ∙ ap counted c.in-Err.is) in record { begun_value = r.began; answer_value = r.answer; starts_value = r.begins; work_after = r.work_is; index_after = r.index_is }

pub returns-in-Ok : goal.returns-in-Ok
returns-in-Ok c =
    let r = whole_run _ _ _ _ _ _ (sym c.check_indexed.ensures ∙ ap counted c.in-Ok.is) _ _ _ _ _ c.run_accepted.ensures.answered_indexed c.run_accepted.ensures.begun_value in record { begun_value = r.began; answer_value = r.answer; starts_value = r.begins; work_after = r.work_is; index_after = r.index_is }

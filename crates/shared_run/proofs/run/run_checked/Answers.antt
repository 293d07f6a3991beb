-- `run::run_checked` meets its contract: the run of any kind of record, for shared products.
-- Assumes nothing.
use mathlib.Core.Path.{refl, ap, ◌∙◌}
use lib.ListN.{length}
use Rattle.records.specs.Answers.{Outcome, and_then}
use Rattle.script.specs.Calls.{ran_outcome, work_after_by}
use Rattle.shared.specs.SharedRecord.{shares}
use Rattle.shared_run.proofs.run.Checked.{back, checked_script, same_outcome, same_after}
use Rattle.shared_run.proofs.run.run_checked.Goals as goal

pub returns : goal.returns
returns c =
    let a = c.args in
    let ran = back a.n a.list.now a.script.now (length a.work.now) in
    let same = checked_script a.n a.list.now a.script.now (length a.work.now) c.requires.accepts c.requires.list_len_bound in
    record {
      result_value = c.run_checked_on.ensures.answer ∙ ap (λ (o : Outcome). and_then o (ran_outcome ran)) same ∙ same_outcome a.n a.list.now a.script.now (length a.work.now);
      work_after = c.run_checked_on.ensures.work_after ∙ ap (λ (o : Outcome). work_after_by shares o a.work.now ran) same ∙ same_after a.n a.list.now a.script.now (length a.work.now) a.work.now refl;
    }

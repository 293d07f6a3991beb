-- The run of a script on a list of any kind of record.
-- Assumes nothing.
use mathlib.Core.Path.{◌≡◌, sym, ap, ◌∙◌}
use Prim.Native.Nat.{ℕ, ◌/◌}
use native.Mathlib.Omega.{arith}
use lib.ListN.{length}
use Rattle.cube.specs.Lists.{most_records}
use Rattle.records.specs.Records.{list_of, capacity_of}
use Rattle.records.specs.Answers.{Outcome, and_then}
use Rattle.records.proofs.Answers.{handed_on}
use Rattle.records.proofs.Checks.{checked}
use Rattle.records.proofs.Records.{length_list}
use Rattle.script.specs.Calls.{ran_outcome, work_after_by}
use Rattle.script.specs.Scripts.{step_records, most_steps}
use Rattle.script.specs.Progress.{run_listed, check_run_by}
use Rattle.script.proofs.Outcomes.{passed, before_list, before_short, before_script, refuses_by}
use Rattle.script.proofs.run.run_on.Goals as goal

pub returns-then-capacity-list : goal.returns-then-capacity-list
returns-then-capacity-list g c =
    let K = g.K.Runnable in
    let list = c.args.list.now in
    let many : length list / c.WIDTH.result ≡ length (list_of K.codec list) = ap (λ (w : ℕ). length list / w) (c.WIDTH.ensures ∙ sym g.met.K.Runnable.width_is) ∙ sym (length_list K.codec list) in
    let both = refuses_by K.codec (check_run_by K.codec K.check K.fits c.args.n list c.args.script.now (length c.args.work.now)) (run_listed K.codec K.on_cube K.step c.args.n list c.args.script.now (length c.args.work.now)) c.args.work.now _
    (sym (before_short (K.check c.args.n list) (length (list_of K.codec list)) (capacity_of K.codec most_records (length c.args.work.now)) (checked step_records (K.fits c.args.n) 7 8 9 most_steps c.args.script.now) _ (sym c.in_ok-check.ensures) _ c.at.ensures (omega (arith, c.if-capacity-list.true, c.capacity.ensures, many)))) in
    record { answer = both.0; work_after = both.1 }

pub returns-in_err-check : goal.returns-in_err-check
returns-in_err-check g c =
    let K = g.K.Runnable in
    let list = c.args.list.now in
    let both = refuses_by K.codec (check_run_by K.codec K.check K.fits c.args.n list c.args.script.now (length c.args.work.now)) (run_listed K.codec K.on_cube K.step c.args.n list c.args.script.now (length c.args.work.now)) c.args.work.now _
    (sym (before_list (K.check c.args.n list) (length (list_of K.codec list)) (capacity_of K.codec most_records (length c.args.work.now)) (checked step_records (K.fits c.args.n) 7 8 9 most_steps c.args.script.now) _ (sym c.in_err-check.ensures))) in
    record { answer = handed_on _ _ _ _ c.from_residual.ensures both.0; work_after = both.1 }

pub run_checked_on-requires : goal.run_checked_on-requires
run_checked_on-requires g c =
    let K = g.K.Runnable in
    let list = c.args.list.now in
    let many : length list / c.WIDTH.result ≡ length (list_of K.codec list) = ap (λ (w : ℕ). length list / w) (c.WIDTH.ensures ∙ sym g.met.K.Runnable.width_is) ∙ sym (length_list K.codec list) in
    record { accepts = passed _ _ (sym c.in_ok-check.ensures); room = omega (arith, c.if-capacity-list.false, c.capacity.ensures, many) }

pub returns : goal.returns
returns g c =
    let K = g.K.Runnable in
    let a = c.args in
    let list = a.list.now in
    let many : length list / c.WIDTH.result ≡ length (list_of K.codec list) = ap (λ (w : ℕ). length list / w) (c.WIDTH.ensures ∙ sym g.met.K.Runnable.width_is) ∙ sym (length_list K.codec list) in
    let same = before_script (K.check a.n list) (length (list_of K.codec list)) (capacity_of K.codec most_records (length a.work.now))
    (checked step_records (K.fits a.n) 7 8 9 most_steps a.script.now) _ (sym c.in_ok-check.ensures) (omega (arith, c.if-capacity-list.false, c.capacity.ensures, many)) in
    let ran = run_listed K.codec K.on_cube K.step a.n list a.script.now (length a.work.now) in
    record {
      answer = c.run_checked_on.ensures.answer ∙ ap (λ (o : Outcome). and_then o (ran_outcome ran)) same;
      work_after = c.run_checked_on.ensures.work_after ∙ ap (λ (o : Outcome). work_after_by K.codec o a.work.now ran) same;
    }

-- The run of a list of shared products, by its records and by its steps.
-- Assumes nothing.
use mathlib.Core.Path.{◌≡◌, refl, sym, ap, ap₂, ◌∙◌}
use mathlib.Core.Bool.{Bool, true, false, cond}
use mathlib.Core.List.{List, map}
use Prim.Native.Nat.{ℕ, ◌≤◌, ◌<◌}
use native.Mathlib.Decide.{ℕ_discrete}
use native.Mathlib.Omega.{arith}
use borrow.Author.Tests.{eq-eqb, ne_eqb}
use lib.ListN.{length}
use Rattle.bits.specs.Sums.{All}
use Rattle.records.specs.Records.{list_of}
use Rattle.records.specs.Answers.{Accepts, and_then}
use Rattle.records.proofs.Checks.{checked}
use Rattle.steps.specs.declared.StepRecord.{StepRecord}
use Rattle.steps.specs.Steps.{meaning}
use Rattle.script.specs.Run.{Ran, finish_by, steps_from}
use Rattle.script.specs.Pending.{none_pending, pend_step, pend_by, restored}
use Rattle.script.specs.Scripts.{step_records, most_steps}
use Rattle.script.specs.Calls.{check_before, ran_outcome, work_after_by}
use Rattle.script.specs.Progress.{pend_record, run_listed, check_run_by}
use Rattle.script.proofs.run.Advancing.{pend_other}
use Rattle.script.proofs.run.Finishing.{steps_mean, pend_mean, back_undoes, outcome_same, after_same}
use Rattle.shared.specs.declared.Shared.{Shared}
use Rattle.shared.specs.SharedRecord.{shares, shares_of, shared_capacity, Fine}
use Rattle.shared.specs.Calls.{check_shared}
use Rattle.shared_steps.specs.SharedSteps.{SharedAllowed, shared_meaning, shared_step, on_cube}
use Rattle.shared_steps.proofs.Kept.{shares_stepwise}
use Rattle.shared_run.specs.SharedScripts.{shared_fits, shared_steps_of}
use Rattle.shared_run.specs.SharedRun.{pend_shared, shared_unstep, shared_run}
use Rattle.shared_run.specs.Calls.{check_shared_run, shared_run_of, shared_run_outcome, shared_run_after}
use Rattle.shared_run.proofs.Outcomes.{AcceptedSharedRun, shared_run_checked, run_script}
use Rattle.shared_run.proofs.Pending.{undo_shared_pending}
use Rattle.shared_run.proofs.SharedScripts.{means_by, shared_known, shared_script_fits, shared_script_records}

-- the pending orders after an L step of a script that is not refused, and after another
pend_products : (n : ℕ) (os : List ℕ) (x : StepRecord) → shared_fits n x ≡ true → pend_record os x ≡ pend_shared os (shared_meaning x)
pend_products n os x e = go (ℕ_discrete x.op 5) (ℕ_discrete x.op 6)
  where
    plainly : (x.op ≡ 6 → ⊥) → pend_step os (meaning x) ≡ pend_shared os (shared_meaning x)
    plainly h = sym (ap (pend_shared os) (means_by x false (ne_eqb x.op 6 h)))

    go : Dec (x.op ≡ 5) → Dec (x.op ≡ 6) → pend_record os x ≡ pend_shared os (shared_meaning x)
    go (yes f) d = ap (λ (b : Bool). cond b (pend_step os (meaning x)) os) (eq-eqb x.op 5 f) ∙ plainly (λ h. omega arith)
    go (no f) (yes h) =
        ap (λ (b : Bool). cond b (pend_step os (meaning x)) os) (ne_eqb x.op 5 f) ∙ sym (ap (pend_shared os) (means_by x true (eq-eqb x.op 6 h)))
    go (no f) (no h) =
        ap (λ (b : Bool). cond b (pend_step os (meaning x)) os) (ne_eqb x.op 5 f) ∙ pend_other os x (omega (arith, (shared_known n x e).most, f, h)) ∙ plainly h

pend_script : (n : ℕ) (script : List ℕ) → All (λ r. shared_fits n r ≡ true) (list_of step_records script)
    → pend_by pend_record none_pending (list_of step_records script) ≡ pend_by pend_shared none_pending (shared_steps_of script)
unfolding shared_steps_of
pend_script n script a =
    pend_mean pend_record pend_shared shared_meaning (λ r. shared_fits n r ≡ true) (pend_products n) (list_of step_records script) a none_pending

module _ (n : ℕ) (list script : List ℕ) (room : ℕ) where
  back_is_run : Accepts (check_shared_run n list script room)
      → run_listed shares on_cube (λ n cap x l. shared_step n cap (shared_meaning x) l) n list script room ≡ shared_run_of n list script room
  unfolding shared_run_of shared_run shared_steps_of
  back_is_run p =
      let ok : AcceptedSharedRun n list script room = shared_run_checked n list script room p in
      let l : List Shared = shares_of list in
      let allowed = shared_script_fits n script ok.script_is.each in
      ap₂ (λ (os : List ℕ) (t : Ran Shared). finish_by (map (on_cube (restored n os))) t) (pend_script n script ok.script_is.each)
      (steps_mean (shared_step n (shared_capacity room)) shared_meaning 0 (length l) (list_of step_records script) l)
      ∙ back_undoes shares (shared_step n (shared_capacity room)) (Fine n) (SharedAllowed n) (shared_capacity room) (shares_stepwise n (shared_capacity room)) shared_unstep
      (shared_steps_of script) (on_cube (restored n (pend_by pend_shared none_pending (shared_steps_of script))))
      (undo_shared_pending n ok.list_is.few (shared_steps_of script) allowed) 0 (length l) l allowed ok.list_is.good

  abbrev pub back : Ran Shared
  back = run_listed shares on_cube (λ n cap x l. shared_step n cap (shared_meaning x) l) n list script room

  pub same_outcome : and_then (check_shared_run n list script room) (ran_outcome back) ≡ shared_run_outcome n list script room
  unfolding shared_run_outcome
  same_outcome = outcome_same shares (check_shared_run n list script room) back (shared_run_of n list script room) back_is_run

  pub same_after : (work : List ℕ) → length work ≡ room → work_after_by shares (check_shared_run n list script room) work back ≡ shared_run_after n list script work
  unfolding shared_run_after
  same_after work e =
      after_same shares (check_shared_run n list script room) back (shared_run_of n list script room) back_is_run work
      ∙ ap (λ (r : ℕ). work_after_by shares (check_shared_run n list script r) work (shared_run_of n list script r)) (sym e)

  pub same_check : check_run_by shares check_shared shared_fits n list script room ≡ check_shared_run n list script room
  unfolding check_shared_run
  same_check = ap (check_before (check_shared n list) (length (shares_of list)) (shared_capacity room)) (shared_script_records n script)

  -- what is left of the checks, of a list that was checked and fits the work buffer, is that of the script
  pub checked_script : Accepts (check_shared n list) → length (shares_of list) ≤ shared_capacity room
      → checked step_records (shared_fits n) 7 8 9 most_steps script ≡ check_shared_run n list script room
  checked_script p h = shared_script_records n script ∙ run_script n list script room p.values p.is h

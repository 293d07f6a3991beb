-- The calls on a list of shared products with a script: what their checks refuse and let pass, by the laws of any kind of list.
-- Assumes nothing.
use mathlib.Core.Path.{◌≡◌}
use mathlib.Core.Logic.{◌⊎◌}
use mathlib.Core.List.{List}
use Prim.Native.Nat.{ℕ, ◌/◌, ◌≤◌, ◌<◌}
use native.Mathlib.Omega.{arith}
use lib.ListN.{length}
use Rattle.records.specs.declared.Refusal.{Refusal}
use Rattle.records.specs.Answers.{accepted, refused, refusal, Accepts}
use Rattle.records.proofs.Records.{length_list}
use Rattle.script.specs.Calls.{ran_outcome, ran_work_by}
use Rattle.script.proofs.Outcomes.{before_list, before_short, before_script, before_passed, EndedBy, ended_by, StoppedBy, stopped_or, refuses_by, answers_by, leaves_by}
use Rattle.shared.specs.SharedRecord.{shares, shares_of, shared_width, shared_capacity}
use Rattle.shared.specs.Calls.{check_shared}
use Rattle.shared.proofs.Lists.{AcceptedShared, shared_accepts}
use Rattle.shared_run.specs.SharedScripts.{check_shared_script}
use Rattle.shared_run.specs.Calls.{check_shared_run, shared_run_of, shared_run_outcome, shared_run_after}
use Rattle.shared_run.proofs.SharedScripts.{AcceptedSharedScript, shared_script_accepts}

module _ (n : ℕ) (list script : List ℕ) (room : ℕ) where
  pub run_list_refused : (r : Refusal) → check_shared n list ≡ refused r → refused r ≡ check_shared_run n list script room
  unfolding check_shared_run
  run_list_refused r e = before_list (check_shared n list) (length (shares_of list)) (shared_capacity room) (check_shared_script n script) r e

  module _ (v : List ℕ) (e : check_shared n list ≡ accepted v) where
    pub run_short : (r : Refusal) → r ≡ refusal 5 0 → shared_capacity room < length list / shared_width → refused r ≡ check_shared_run n list script room
    unfolding check_shared_run
    run_short r er h =
        before_short (check_shared n list) (length (shares_of list)) (shared_capacity room) (check_shared_script n script) v e r er (omega (arith, length_list shares list))

    pub run_script : length (shares_of list) ≤ shared_capacity room → check_shared_script n script ≡ check_shared_run n list script room
    unfolding check_shared_run
    run_script h = before_script (check_shared n list) (length (shares_of list)) (shared_capacity room) (check_shared_script n script) v e h

  -- what passed
  pub record AcceptedSharedRun : Type 0 where
    pub list_is : AcceptedShared n list
    pub fits : length list / shared_width ≤ shared_capacity room
    pub script_is : AcceptedSharedScript n script

  pub shared_run_checked : Accepts (check_shared_run n list script room) → AcceptedSharedRun
  unfolding check_shared_run
  shared_run_checked p =
      let b = before_passed (check_shared n list) (length (shares_of list)) (shared_capacity room) (check_shared_script n script) p in
      record {
        list_is = shared_accepts n list b.list_passed.values b.list_passed.is;
        fits = omega (arith, b.fits, length_list shares list);
        script_is = shared_script_accepts n script b.script_passed.values b.script_passed.is;
      }

-- ---- the outcome

abbrev pub SharedRunEnded : (n : ℕ) (list script : List ℕ) (room : ℕ) (v : List ℕ) → Type 0
SharedRunEnded n list script room v = EndedBy (check_shared_run n list script room) (shared_run_of n list script room) v

abbrev pub SharedRunStopped : (n : ℕ) (list script : List ℕ) (room : ℕ) (r : Refusal) → Type 0
SharedRunStopped n list script room r = StoppedBy (check_shared_run n list script room) (shared_run_of n list script room) r

module _ (n : ℕ) (list script : List ℕ) (room : ℕ) where
  pub shared_run_accepted : (v : List ℕ) → shared_run_outcome n list script room ≡ accepted v → SharedRunEnded n list script room v
  unfolding shared_run_outcome
  shared_run_accepted v e = ended_by (check_shared_run n list script room) (shared_run_of n list script room) v e

  -- refused before the first step, or at a step
  pub shared_run_refused_by : (r : Refusal) → shared_run_outcome n list script room ≡ refused r
      → (check_shared_run n list script room ≡ refused r) ⊎ SharedRunStopped n list script room r
  unfolding shared_run_outcome
  shared_run_refused_by r e = stopped_or (check_shared_run n list script room) (shared_run_of n list script room) r e

module _ (n : ℕ) (list script work : List ℕ) where
  pub run_refuses : (r : Refusal) → check_shared_run n list script (length work) ≡ refused r
      → (refused r ≡ shared_run_outcome n list script (length work)) × (work ≡ shared_run_after n list script work)
  unfolding shared_run_outcome shared_run_after
  run_refuses r e = refuses_by shares (check_shared_run n list script (length work)) (shared_run_of n list script (length work)) work r e

  module _ (v : List ℕ) (e : check_shared_run n list script (length work) ≡ accepted v) where
    pub run_answers : ran_outcome (shared_run_of n list script (length work)) ≡ shared_run_outcome n list script (length work)
    unfolding shared_run_outcome
    run_answers = answers_by shares (check_shared_run n list script (length work)) (shared_run_of n list script (length work)) work v e

    pub run_leaves : ran_work_by shares (length work) (shared_run_of n list script (length work)) ≡ shared_run_after n list script work
    unfolding shared_run_after
    run_leaves = leaves_by shares (check_shared_run n list script (length work)) (shared_run_of n list script (length work)) work v e

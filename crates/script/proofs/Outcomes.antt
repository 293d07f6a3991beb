-- A run on any kind of list: what its checks refuse and let pass, and its outcome taken apart; and the call `run`.
-- Assumes nothing.
use mathlib.Core.Path.{◌≡◌, refl, sym, ap, ◌∙◌}
use mathlib.Core.Logic.{◌⊎◌, inl, inr}
use mathlib.Core.Bool.{Bool}
use mathlib.Core.List.{List, [], ◌∷◌}
use Prim.Native.Nat.{ℕ, ◌/◌, ◌≤◌, ◌<◌}
use native.Mathlib.Omega.{arith}
use borrow.Author.Tests.{le-leb, lt-leb, leb-true}
use lib.Dec.{leb}
use lib.ListN.{length}
use Rattle.records.specs.declared.Refusal.{Refusal}
use Rattle.records.specs.Answers.{Outcome, accepted, refused, refusal, unless, and_then, Accepts}
use Rattle.records.proofs.Answers.{not_both, accepted_values, refused_same, unless_accepted, both_accepted, and_then_lem, and_not}
use Rattle.records.specs.Records.{Codec}
use Rattle.records.proofs.Records.{length_list}
use Rattle.cube.specs.Lists.{cubes, cubes_of, cube_capacity, record_width, most_variables}
use Rattle.cube.specs.Calls.{check_list}
use Rattle.cube.proofs.Lists.{AcceptedList, check_accepts}
use Rattle.script.specs.Run.{Ran, stopped, ended}
use Rattle.script.specs.Calls.{check_script, check_before, check_run, run_of, of_step, ran_outcome, run_outcome, ran_work_by, ran_work, work_after_by, run_after}
use Rattle.script.proofs.Scripts.{AcceptedScript, script_accepts}

pub passed : (o : Outcome) (v : List ℕ) → o ≡ accepted v → Accepts o
passed o v e = record { values = v; is = e }

-- ---- the checks before any step, of any kind of list: by what its own check says, its count, the capacity of the work buffer and what the script's check says

module _ (list : Outcome) (count capacity : ℕ) (script : Outcome) where
  pub before_list : (r : Refusal) → list ≡ refused r → refused r ≡ check_before list count capacity script
  before_list r e = sym (and_not _ _ r e)

  module _ (v : List ℕ) (e : list ≡ accepted v) where
    pub before_short : (r : Refusal) → r ≡ refusal 5 0 → capacity < count → refused r ≡ check_before list count capacity script
    before_short r er h = ap refused er ∙ sym (and_then_lem _ _ v e ∙ ap (λ (t : Bool). unless t 5 0 script) (lt-leb _ _ h))

    pub before_script : count ≤ capacity → script ≡ check_before list count capacity script
    before_script h = sym (and_then_lem _ _ v e ∙ ap (λ (t : Bool). unless t 5 0 script) (le-leb _ _ h))

  -- what passed
  pub record Passed : Type 0 where
    pub list_passed : Accepts list
    pub fits : count ≤ capacity
    pub script_passed : Accepts script

  pub before_passed : Accepts (check_before list count capacity script) → Passed
  before_passed p =
      let b = both_accepted list _ p.values p.is in
      let c = unless_accepted (leb count capacity) 5 0 script p.values b.second in
      record { list_passed = passed list b.values b.first; fits = leb-true count capacity c.0; script_passed = passed script p.values c.1 }

-- ---- the outcome of a run on any kind of record, by what its checks and its steps say

-- an accepted run: its checks passed, and its steps ended in a list
pub record EndedBy {A : Type 0} (check : Outcome) (t : Ran A) (v : List ℕ) : Type 0 where
  pub checks : Accepts check
  pub result : List A
  pub peak : ℕ
  pub ran : t ≡ ended result peak
  pub values : v ≡ length result ∷ peak ∷ []

-- one refused at a step
pub record StoppedBy {A : Type 0} (check : Outcome) (t : Ran A) (r : Refusal) : Type 0 where
  pub checks : Accepts check
  pub ran : t ≡ stopped (of_step r) r.place

module _ {A : Type 0} (check : Outcome) (ran : Ran A) where
  pub ended_by : (v : List ℕ) → and_then check (ran_outcome ran) ≡ accepted v → EndedBy check ran v
  ended_by v e =
      let b = both_accepted check _ v e in
      go (passed check b.values b.first) ran refl b.second
    where
      go : Accepts check → (t : Ran A) → ran ≡ t → ran_outcome t ≡ accepted v → EndedBy check ran v
      go p (stopped why step) is e = absurd (not_both (sym e))
      go p (ended l peak) is e = record { checks = p; result = l; peak = peak; ran = is; values = sym (accepted_values e) }

  -- refused before the first step, or at a step
  pub stopped_or : (r : Refusal) → and_then check (ran_outcome ran) ≡ refused r → (check ≡ refused r) ⊎ StoppedBy check ran r
  stopped_or r e = go check ran refl refl e
    where
      go : (o : Outcome) (t : Ran A) → check ≡ o → ran ≡ t → and_then o (ran_outcome t) ≡ refused r → (check ≡ refused r) ⊎ StoppedBy check ran r
      go (refused q) t eo et e = inl (eo ∙ e)
      go (accepted v) (ended l peak) eo et e = absurd (not_both e)
      go (accepted v) (stopped why step) eo et e =
          inr (record { checks = passed _ v eo; ran = et ∙ ap (λ (q : Refusal). stopped (of_step q) q.place) (refused_same e) })

-- the other way, from the checks and the run: what the call answers and leaves
module _ {A : Type 0} (C : Codec A) (check : Outcome) (ran : Ran A) (work : List ℕ) where
  pub refuses_by : (r : Refusal) → check ≡ refused r → (refused r ≡ and_then check (ran_outcome ran)) × (work ≡ work_after_by C check work ran)
  refuses_by r e = (sym (and_not _ _ r e), sym (ap (λ (o : Outcome). work_after_by C o work ran) e))

  module _ (v : List ℕ) (e : check ≡ accepted v) where
    pub answers_by : ran_outcome ran ≡ and_then check (ran_outcome ran)
    answers_by = sym (and_then_lem _ _ v e)

    pub leaves_by : ran_work_by C (length work) ran ≡ work_after_by C check work ran
    leaves_by = sym (ap (λ (o : Outcome). work_after_by C o work ran) e)

-- ---- the run of a list of cubes

module _ (n : ℕ) (list script : List ℕ) (room : ℕ) where
  pub run_list_refused : (r : Refusal) → check_list most_variables n list ≡ refused r → refused r ≡ check_run n list script room
  unfolding check_run
  run_list_refused r e = before_list (check_list most_variables n list) (length (cubes_of list)) (cube_capacity room) (check_script n script) r e

  module _ (v : List ℕ) (e : check_list most_variables n list ≡ accepted v) (cap : ℕ) (ec : cap ≡ cube_capacity room) where
    pub run_short : (r : Refusal) → r ≡ refusal 5 0 → cap < length list / record_width → refused r ≡ check_run n list script room
    unfolding check_run
    run_short r er h = before_short (check_list most_variables n list) (length (cubes_of list)) (cube_capacity room) (check_script n script) v e r er (omega (arith, ec, length_list cubes list))

    pub run_script : length list / record_width ≤ cap → check_script n script ≡ check_run n list script room
    unfolding check_run
    run_script h = before_script (check_list most_variables n list) (length (cubes_of list)) (cube_capacity room) (check_script n script) v e (omega (arith, ec, length_list cubes list))

  -- what passed
  pub record AcceptedRun : Type 0 where
    pub list_is : AcceptedList cubes most_variables n list
    pub fits : length list / record_width ≤ cube_capacity room
    pub script_is : AcceptedScript n script

  pub run_checked : Accepts (check_run n list script room) → AcceptedRun
  unfolding check_run
  run_checked p =
      let b = before_passed (check_list most_variables n list) (length (cubes_of list)) (cube_capacity room) (check_script n script) p in
      record {
        list_is = check_accepts cubes most_variables n list b.list_passed.values b.list_passed.is;
        fits = omega (arith, b.fits, length_list cubes list);
        script_is = script_accepts n script b.script_passed.values b.script_passed.is;
      }

-- the outcome, for crates above
abbrev pub RunEnded : (n : ℕ) (list script : List ℕ) (room : ℕ) (v : List ℕ) → Type 0
RunEnded n list script room v = EndedBy (check_run n list script room) (run_of n list script room) v

abbrev pub RunStopped : (n : ℕ) (list script : List ℕ) (room : ℕ) (r : Refusal) → Type 0
RunStopped n list script room r = StoppedBy (check_run n list script room) (run_of n list script room) r

module _ (n : ℕ) (list script : List ℕ) (room : ℕ) where
  pub run_accepted : (v : List ℕ) → run_outcome n list script room ≡ accepted v → RunEnded n list script room v
  unfolding run_outcome
  run_accepted v e = ended_by (check_run n list script room) (run_of n list script room) v e

  -- refused before the first step, or at a step
  pub run_refused_by : (r : Refusal) → run_outcome n list script room ≡ refused r → (check_run n list script room ≡ refused r) ⊎ RunStopped n list script room r
  unfolding run_outcome
  run_refused_by r e = stopped_or (check_run n list script room) (run_of n list script room) r e

module _ (n : ℕ) (list script work : List ℕ) where
  pub run_refuses : (r : Refusal) → check_run n list script (length work) ≡ refused r
      → (refused r ≡ run_outcome n list script (length work)) × (work ≡ run_after n list script work)
  unfolding run_outcome run_after
  run_refuses r e = refuses_by cubes (check_run n list script (length work)) (run_of n list script (length work)) work r e

  module _ (v : List ℕ) (e : check_run n list script (length work) ≡ accepted v) where
    pub run_answers : ran_outcome (run_of n list script (length work)) ≡ run_outcome n list script (length work)
    unfolding run_outcome
    run_answers = answers_by cubes (check_run n list script (length work)) (run_of n list script (length work)) work v e

    pub run_leaves : ran_work (length work) (run_of n list script (length work)) ≡ run_after n list script work
    unfolding run_after
    run_leaves = leaves_by cubes (check_run n list script (length work)) (run_of n list script (length work)) work v e

-- A checked list of any kind of record in the work buffer; and the run of a list of cubes, by its records and by its steps.
-- Assumes nothing.
use mathlib.Core.Path.{◌≡◌, refl, sym, ap, ap₂, ◌∙◌, subst}
use mathlib.Core.Bool.{Bool, true, cond}
use mathlib.Core.List.{List, map}
use Prim.Native.Nat.{ℕ, ◌+◌, ◌*◌, ◌/◌, ◌≤◌, ◌<◌}
use native.Mathlib.Nat.{add-zero, le_trans, mul-le-mul_left}
use native.Mathlib.Omega.{arith}
use Rattle.std.proofs.Math.Nat.{div-add-mod}
use borrow.Author.Tests.{eq-eqb, ne_eqb}
use native.Mathlib.Decide.{ℕ_discrete}
use lib.ListN.{length, get_or}
use Rattle.bits.specs.Sums.{All}
use Rattle.records.specs.Records.{Codec, records, list_of, filled_by, flat, capacity_of}
use Rattle.records.specs.Answers.{Accepts, and_then}
use Rattle.records.proofs.Checks.{checked}
use Rattle.records.proofs.Records.{Lawful, length_list, capacity_fits}
use Rattle.cube.specs.declared.Cube.{Cube}
use Rattle.cube.specs.Cubes.{Good}
use Rattle.cube.specs.Lists.{cubes, cubes_of, cube_capacity, most_records, most_variables}
use Rattle.cube.specs.Calls.{check_list}
use Rattle.steps.specs.declared.StepRecord.{StepRecord}
use Rattle.steps.specs.Steps.{Allowed, meaning, step}
use Rattle.steps.proofs.step.Stepping.{cubes_stepwise}
use Rattle.script.specs.Carrying.{Carries, Listed}
use Rattle.script.specs.Run.{Ran, finish_by, steps_from, unstep, run}
use Rattle.script.specs.Pending.{none_pending, pend_step, pend, pend_by, restored}
use Rattle.script.specs.Scripts.{step_records, most_steps, fits, steps_of}
use Rattle.script.specs.Calls.{check_before, check_run, run_of, ran_outcome, run_outcome, work_after_by, run_after}
use Rattle.script.specs.Progress.{pend_record, run_listed, check_run_by}
use Rattle.script.proofs.Carrying.{ready_carries}
use Rattle.script.proofs.Filled.{filled_records_by, filled_long_by, filled_ready_by}
use Rattle.script.proofs.Outcomes.{AcceptedRun, run_checked, run_script}
use Rattle.script.proofs.Pending.{undo_pending}
use Rattle.script.proofs.Scripts.{script_fits, script_records, fits_known}
use Rattle.script.proofs.run.Advancing.{pend_other}
use Rattle.script.proofs.run.Finishing.{steps_mean, pend_mean, back_undoes, outcome_same, after_same}

-- ---- a checked list, filled into the work buffer

module _ {A : Type 0} (C : Codec A) (K : Lawful C) (test : A → Bool) (n : ℕ) (list work : List ℕ) (ok : Listed C test n list)
    (whole : (k : ℕ) (b : List ℕ) → length b ≡ C.width * k → ((i : ℕ) → get_or b i 0 < 256) → flat C.enc (records C k b) ≡ b)
    (small : (i : ℕ) → get_or list i 0 < 256) (room : length (list_of C list) ≤ capacity_of C most_records (length work))
    (count : ℕ) (many : count ≡ length list / C.width) (w : List ℕ) (e : w ≡ filled_by work list) where
  exact : length list ≡ C.width * count
  exact =
      sym (div-add-mod (length list) C.width) ∙ ap (λ (r : ℕ). C.width * (length list / C.width) + r) ok.whole ∙ add-zero (C.width * (length list / C.width))
      ∙ ap (λ (k : ℕ). C.width * k) (sym many)

  fits_in : length list ≤ length work
  fits_in =
      let few : count ≤ capacity_of C most_records (length work) = omega (arith, many, length_list C list, room) in
      subst (λ (k : ℕ). k ≤ length work) (sym exact) (le_trans (mul-le-mul_left C.width few) (capacity_fits C most_records (length work)))

  bytes : flat C.enc (records C count list) ≡ list
  bytes = whole count list exact small

  given : records C count list ≡ list_of C list
  unfolding list_of
  given = ap (λ (k : ℕ). records C k list) many

  pub listed_records : records C count w ≡ list_of C list
  listed_records = filled_records_by C K count list work bytes fits_in w e ∙ given

  pub listed_long : length w ≡ length work
  listed_long = filled_long_by C K count list work bytes fits_in w e

  pub listed_carries : (cap : ℕ) → cap ≡ capacity_of C most_records (length work) → Carries C test n count cap w
  listed_carries cap ec =
      ready_carries C test (λ a. test a ≡ true) n count cap w (λ a p. p)
      (filled_ready_by C K count list work bytes fits_in w e (λ a. test a ≡ true) (subst (All (λ a. test a ≡ true)) (sym given) ok.each) n ok.few cap
      (subst (λ (k : ℕ). C.width * k ≤ length work) (sym ec) (capacity_fits C most_records (length work))))

-- ---- the run of a list of cubes

-- the pending orders after an L step of a script that is not refused, and after another
pend_cubes : (n : ℕ) (os : List ℕ) (x : StepRecord) → fits n x ≡ true → pend_record os x ≡ pend_step os (meaning x)
pend_cubes n os x e = go (ℕ_discrete x.op 5)
  where
    go : Dec (x.op ≡ 5) → pend_record os x ≡ pend_step os (meaning x)
    go (yes f) = ap (λ (b : Bool). cond b (pend_step os (meaning x)) os) (eq-eqb x.op 5 f)
    go (no f) = ap (λ (b : Bool). cond b (pend_step os (meaning x)) os) (ne_eqb x.op 5 f) ∙ pend_other os x (omega (arith, (fits_known n x e).most, f))

pub pend_script : (n : ℕ) (script : List ℕ) → All (λ r. fits n r ≡ true) (list_of step_records script)
    → pend_by pend_record none_pending (list_of step_records script) ≡ pend none_pending (steps_of script)
unfolding steps_of
pend_script n script a = pend_mean pend_record pend_step meaning (λ r. fits n r ≡ true) (pend_cubes n) (list_of step_records script) a none_pending

module _ (n : ℕ) (list script : List ℕ) (room : ℕ) where
  pub back_is_run : Accepts (check_run n list script room)
      → run_listed cubes (λ f c. f c) (λ n cap x l. step n cap (meaning x) l) n list script room ≡ run_of n list script room
  unfolding run_of run steps_of
  back_is_run p =
      let ok : AcceptedRun n list script room = run_checked n list script room p in
      let rs : List StepRecord = list_of step_records script in
      let l : List Cube = cubes_of list in
      let allowed = script_fits n script ok.script_is.each in
      ap₂ (λ (os : List ℕ) (t : Ran Cube). finish_by (map (restored n os)) t) (pend_script n script ok.script_is.each) (by_steps l)
      ∙ back_undoes cubes (step n (cube_capacity room)) (Good n) (Allowed n) (cube_capacity room) (cubes_stepwise n (cube_capacity room)) unstep (steps_of script)
      (restored n (pend none_pending (steps_of script))) (undo_pending n ok.list_is.few (steps_of script) allowed) 0 (length l) l allowed ok.list_is.good
    where
      by_steps : (l : List Cube)
          → steps_from (λ x. step n (cube_capacity room) (meaning x)) 0 (length l) (list_of step_records script) l ≡ steps_from (step n (cube_capacity room)) 0 (length l) (steps_of script) l
      by_steps l = steps_mean (step n (cube_capacity room)) meaning 0 (length l) (list_of step_records script) l

  abbrev pub back : Ran Cube
  back = run_listed cubes (λ f c. f c) (λ n cap x l. step n cap (meaning x) l) n list script room

  pub same_outcome : and_then (check_run n list script room) (ran_outcome back) ≡ run_outcome n list script room
  unfolding run_outcome
  same_outcome = outcome_same cubes (check_run n list script room) back (run_of n list script room) back_is_run

  pub same_after : (work : List ℕ) → length work ≡ room → work_after_by cubes (check_run n list script room) work back ≡ run_after n list script work
  unfolding run_after
  same_after work e =
      after_same cubes (check_run n list script room) back (run_of n list script room) back_is_run work
      ∙ ap (λ (r : ℕ). work_after_by cubes (check_run n list script r) work (run_of n list script r)) (sym e)

  pub same_check : check_run_by cubes (check_list most_variables) fits n list script room ≡ check_run n list script room
  unfolding check_run
  same_check = ap (check_before (check_list most_variables n list) (length (cubes_of list)) (cube_capacity room)) (script_records n script)

-- what is left of the checks, of a list that was checked and fits the work buffer, is that of the script
pub checked_script : (n : ℕ) (list script : List ℕ) (room : ℕ) → Accepts (check_list most_variables n list) → length (cubes_of list) ≤ cube_capacity room
    → checked step_records (fits n) 7 8 9 most_steps script ≡ check_run n list script room
checked_script n list script room p h =
    script_records n script ∙ run_script n list script room p.values p.is (cube_capacity room) refl (omega (arith, length_list cubes list))

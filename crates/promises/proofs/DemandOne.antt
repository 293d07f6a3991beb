-- Demand 1. Every call ends and answers, on all lists, scripts and buffers. Bad input is refused by a number and a place. A refusal found before the
-- script starts writes nothing; one found at a step clears the work area and hands out no list.
-- Of the calls on a map the same is said in Selector.antt.
-- That every call ends and answers is what its proof says, for it has no `requires`; `Called` is any outcome that its contract allows (Contracts.antt).
-- Assumes nothing.
use mathlib.Core.Path.{◌≡◌, refl, sym, ap, ◌∙◌, subst}
use mathlib.Core.Logic.{◌⊎◌, inl, inr}
use mathlib.Core.Bool.{Bool, true, false, cond, ◌||◌, true≢false}
use mathlib.Core.List.{List, [], ◌∷◌}
use Prim.Native.Nat.{ℕ, zero, suc, ◌≤◌}
use native.Mathlib.Omega.{arith}
use lib.Dec.{eqb}
use lib.ListN.{length, get_or}
use Rattle.records.specs.declared.Refusal.{Refusal}
use Rattle.records.specs.Records.{zeros}
use Rattle.records.specs.Answers.{Outcome, accepted, refused, refusal}
use Rattle.records.proofs.Answers.{not_both, refused_same}
use Rattle.cube.specs.declared.Cube.{Cube}
use Rattle.cube.specs.Lists.{cubes_of, cube_capacity}
use Rattle.steps.specs.declared.StepRefusal.{StepRefusal}
use Rattle.steps.specs.Steps.{Step, drop}
use Rattle.steps.specs.Effects.{by_cubes, differing_of}
use Rattle.steps.proofs.Inversion.{step_refused, step_number, step_third}
use Rattle.script.specs.Run.{Ran, stopped, ended}
use Rattle.script.specs.Scripts.{steps_of}
use Rattle.script.specs.Calls.{run_of, at_step, of_step, ran_outcome, ran_work_by, ran_work}
use Rattle.indexed.specs.Calls.{ran_index, ran_starts}
use Rattle.script.proofs.Refusals.{stopped_steps, refused_stops}
use Rattle.settling.specs.Calls.{ran_settled, ran_burned}
use Rattle.shared.specs.declared.Shared.{Shared}
use Rattle.shared.specs.SharedRecord.{shares, shares_of, shared_capacity}
use Rattle.shared_steps.specs.SharedSteps.{SharedStep, plain}
use Rattle.shared_steps.specs.Effects.{SharedStepRefused, by_shared, shared_differing}
use Rattle.shared_steps.proofs.Inversion.{shared_refused, shared_number, shared_third_lem}
use Rattle.shared_run.specs.SharedScripts.{shared_steps_of}
use Rattle.shared_run.specs.Calls.{shared_run_of, ran_shared, ran_shared_out}
use Rattle.shared_run.proofs.Refusals as shared_refusals
use Rattle.promises.specs.Calls.{Call, check, value, reasons, truth_vector, coefficients, vector_back, write_form, best_polarity, write_tree, write_kronecker, run, build_index, group, run_indexed, write_script, compact, settle, wide_from_narrow, narrow_from_wide, shared_check, shared_value, shared_run, shared_settle, answers, lent, leaves, Called}
use Rattle.promises.specs.Refusals.{NoneWrong, FirstWrong, faults, before_steps, at_steps, RefusedBefore, StepStops, Stopped, SharedStepStops, SharedStopped, RefusedAtStep, in_run, in_run_indexed, in_settle, in_shared_run, in_shared_settle}
use Rattle.promises.specs.Accepted.{goes_on, goes_on_leaving, ScriptStops, run_stops, run_indexed_stops, settle_stops, shared_run_stops, shared_settle_stops, ScriptEnds}
use Rattle.promises.proofs.Chains.{first_only, first_number, not_none}
use Rattle.promises.proofs.Numbers.{numbered}
use Rattle.promises.proofs.Judging.{Outcomes, judged}
use Rattle.promises.proofs.Judging as judging

-- ---- the steps

stops : (n : ℕ) (list script work : List ℕ) (r : Refusal) → run_of n list script (length work) ≡ stopped (of_step r) r.place → Stopped n list script work r
unfolding run_of
stops n list script work r e =
    let cap : ℕ = cube_capacity (length work) in
    let x : Step = get_or (steps_of script) r.place (drop 0 0) in
    let t : StepStops n list script work (of_step r) r.place = stopped_steps n cap (steps_of script) (cubes_of list) (of_step r) r.place e in
    record {
      steps = t;
      why = step_refused n cap x t.between (of_step r) t.here;
      number = step_number n cap x t.between (of_step r) t.here;
      third = step_third n cap x t.between (of_step r) t.here;
    }

shared_stops : (n : ℕ) (list script work : List ℕ) (r : Refusal) → shared_run_of n list script (length work) ≡ stopped (of_step r) r.place → SharedStopped n list script work r
unfolding shared_run_of
shared_stops n list script work r e =
    let cap : ℕ = shared_capacity (length work) in
    let x : SharedStep = get_or (shared_steps_of script) r.place (plain (drop 0 0)) in
    let t : SharedStepStops n list script work (of_step r) r.place = shared_refusals.stopped_steps n cap (shared_steps_of script) (shares_of list) (of_step r) r.place e in
    let why : SharedStepRefused n cap x t.between (of_step r) = shared_refused n cap x t.between (of_step r) t.here in
    record {
      steps = t;
      why = why;
      number = shared_number n cap x t.between (of_step r) why;
      third = shared_third_lem n cap x t.between (of_step r) why;
    }

-- a run that a call tells as a refusal was stopped, at the place that is told
module _ {A : Type 0} (tell : Ran A → Outcome) (stop_is : (why : StepRefusal) (k : ℕ) → tell (stopped why k) ≡ refused (at_step why k))
    (end_is : (l : List A) (peak : ℕ) (r : Refusal) → tell (ended l peak) ≡ refused r → ⊥) where
  told_stopped : (ran : Ran A) (r : Refusal) → tell ran ≡ refused r → ran ≡ stopped (of_step r) r.place
  told_stopped (ended l peak) r e = absurd (end_is l peak r e)
  told_stopped (stopped why k) r e = ap (λ (q : Refusal). stopped (of_step q) q.place) (refused_same (sym (stop_is why k) ∙ e))

-- a call that went on and was refused has a script, and was refused at a step of it
at_step_lem : (c : Call) (r : Refusal) (buffers : List (List ℕ)) → NoneWrong (faults c) → goes_on c ≡ refused r → buffers ≡ goes_on_leaving c → RefusedAtStep r buffers c
unfolding goes_on goes_on_leaving
at_step_lem (check n list) r buffers none e f = absurd (not_both e)
at_step_lem (value n list a) r buffers none e f = absurd (not_both e)
at_step_lem (reasons n list a out) r buffers none e f = absurd (not_both e)
at_step_lem (truth_vector n list out) r buffers none e f = absurd (not_both e)
at_step_lem (coefficients n vector p out) r buffers none e f = absurd (not_both e)
at_step_lem (vector_back n vector p out) r buffers none e f = absurd (not_both e)
at_step_lem (write_form n vector p out) r buffers none e f = absurd (not_both e)
at_step_lem (best_polarity n vector) r buffers none e f = absurd (not_both e)
at_step_lem (write_tree n vector out) r buffers none e f = absurd (not_both e)
at_step_lem (write_kronecker n vector out) r buffers none e f = absurd (not_both e)
at_step_lem (build_index n list index starts) r buffers none e f = absurd (not_both e)
at_step_lem (group n list index starts number) r buffers none e f = absurd (not_both e)
at_step_lem (write_script n list work script) r buffers none e f = absurd (not_both e)
at_step_lem (compact n count script out) r buffers none e f = absurd (not_both e)
at_step_lem (wide_from_narrow n list out) r buffers none e f = absurd (not_both e)
at_step_lem (narrow_from_wide n list out) r buffers none e f = absurd (not_both e)
at_step_lem (shared_check n list) r buffers none e f = absurd (not_both e)
at_step_lem (shared_value n list a) r buffers none e f = absurd (not_both e)
at_step_lem (run n list script work) r buffers none e f =
    let s = told_stopped ran_outcome (λ why k. refl) (λ l peak r. not_both) (run_of n list script (length work)) r e in
    in_run n list script work none (stops n list script work r s) (f ∙ ap (λ (ran : Ran Cube). ran_work (length work) ran ∷ []) s)
at_step_lem (run_indexed n list script work index starts) r buffers none e f =
    let s = told_stopped ran_outcome (λ why k. refl) (λ l peak r. not_both) (run_of n list script (length work)) r e in
    in_run_indexed n list script work index starts none (stops n list script work r s)
    (f ∙ ap (λ (ran : Ran Cube). ran_work (length work) ran ∷ ran_index (length index) ran ∷ ran_starts ran ∷ []) s)
at_step_lem (settle n list script work out) r buffers none e f =
    let s = told_stopped (ran_settled n (cubes_of list)) (λ why k. refl) (λ l peak r. not_both) (run_of n list script (length work)) r e in
    in_settle n list script work out none (stops n list script work r s)
    (f ∙ ap (λ (ran : Ran Cube). zeros (length work) ∷ ran_burned n (cubes_of list) ran out ∷ []) s)
at_step_lem (shared_run n list script work) r buffers none e f =
    let s = told_stopped ran_outcome (λ why k. refl) (λ l peak r. not_both) (shared_run_of n list script (length work)) r e in
    in_shared_run n list script work none (shared_stops n list script work r s) (f ∙ ap (λ (ran : Ran Shared). ran_work_by shares (length work) ran ∷ []) s)
at_step_lem (shared_settle n list script work out) r buffers none e f =
    let s = told_stopped (ran_shared (shares_of list)) (λ why k. refl) (λ l peak r. not_both) (shared_run_of n list script (length work)) r e in
    in_shared_settle n list script work out none (shared_stops n list script work r s)
    (f ∙ ap (λ (ran : Ran Shared). zeros (length work) ∷ ran_shared_out (shares_of list) ran out ∷ []) s)

-- its number, and its third answer where the cubes are as the step needs
record StepTold (r : Refusal) : Type 0 where
  number_is : by_shared r.number ≡ true
  third_else : by_cubes r.number ≡ false → r.differing ≡ 0

stop_told : (n : ℕ) (list script work : List ℕ) (r : Refusal) → Stopped n list script work r → StepTold r
stop_told n list script work r s =
    let many : ℕ = differing_of n (get_or (steps_of script) r.place (drop 0 0)) s.steps.between in
    record {
      number_is = ap (λ (b : Bool). b || (eqb r.number 22 || eqb r.number 23)) s.number;
      third_else = λ e. s.third ∙ ap (λ (b : Bool). cond b many 0) e;
    }

shared_told : (n : ℕ) (list script work : List ℕ) (r : Refusal) → SharedStopped n list script work r → StepTold r
shared_told n list script work r s =
    let many : ℕ = shared_differing n (get_or (shared_steps_of script) r.place (plain (drop 0 0))) s.steps.between in
    record { number_is = s.number; third_else = λ e. s.third ∙ ap (λ (b : Bool). cond b many 0) e }

step_told : {r : Refusal} {buffers : List (List ℕ)} {c : Call} → RefusedAtStep r buffers c → StepTold r
step_told (in_run n list script work none s e) = stop_told n list script work _ s
step_told (in_run_indexed n list script work index starts none s e) = stop_told n list script work _ s
step_told (in_settle n list script work out none s e) = stop_told n list script work _ s
step_told (in_shared_run n list script work none s e) = shared_told n list script work _ s
step_told (in_shared_settle n list script work out none s e) = shared_told n list script work _ s

step_number_is : {r : Refusal} {buffers : List (List ℕ)} {c : Call} → RefusedAtStep r buffers c → at_steps c r.number ≡ true
unfolding at_steps
step_number_is (in_run n list script work none s e) = s.number
step_number_is (in_run_indexed n list script work index starts none s e) = s.number
step_number_is (in_settle n list script work out none s e) = s.number
step_number_is (in_shared_run n list script work none s e) = s.number
step_number_is (in_shared_settle n list script work out none s e) = s.number

-- where nothing is wrong and a step of the script is refused, the call is
refuses : {c : Call} {why : StepRefusal} {k : ℕ} → ScriptStops why k c → goes_on c ≡ refused (at_step why k)
unfolding goes_on run_of shared_run_of
refuses (run_stops n list script work s) = ap ran_outcome (refused_stops n (cube_capacity (length work)) (steps_of script) (cubes_of list) _ _ s)
refuses (run_indexed_stops n list script work index starts s) =
    ap ran_outcome (refused_stops n (cube_capacity (length work)) (steps_of script) (cubes_of list) _ _ s)
refuses (settle_stops n list script work out s) =
    ap (ran_settled n (cubes_of list)) (refused_stops n (cube_capacity (length work)) (steps_of script) (cubes_of list) _ _ s)
refuses (shared_run_stops n list script work s) =
    ap ran_outcome (shared_refusals.refused_stops n (shared_capacity (length work)) (shared_steps_of script) (shares_of list) _ _ s)
refuses (shared_settle_stops n list script work out s) =
    ap (ran_shared (shares_of list)) (shared_refusals.refused_stops n (shared_capacity (length work)) (shared_steps_of script) (shares_of list) _ _ s)

-- where nothing is wrong and the script, if there is one, ends, the call is accepted
accepts : (c : Call) → ScriptEnds c → (v : List ℕ) × (goes_on c ≡ accepted v)
unfolding goes_on ScriptEnds
accepts (check n list) s = (_, refl)
accepts (value n list a) s = (_, refl)
accepts (reasons n list a out) s = (_, refl)
accepts (truth_vector n list out) s = (_, refl)
accepts (coefficients n vector p out) s = (_, refl)
accepts (vector_back n vector p out) s = (_, refl)
accepts (write_form n vector p out) s = (_, refl)
accepts (best_polarity n vector) s = (_, refl)
accepts (write_tree n vector out) s = (_, refl)
accepts (write_kronecker n vector out) s = (_, refl)
accepts (run n list script work) s = (_, ap ran_outcome s.is)
accepts (build_index n list index starts) s = (_, refl)
accepts (group n list index starts number) s = (_, refl)
accepts (run_indexed n list script work index starts) s = (_, ap ran_outcome s.is)
accepts (write_script n list work script) s = (_, refl)
accepts (compact n count script out) s = (_, refl)
accepts (settle n list script work out) s = (_, ap (ran_settled n (cubes_of list)) s.is)
accepts (wide_from_narrow n list out) s = (_, refl)
accepts (narrow_from_wide n list out) s = (_, refl)
accepts (shared_check n list) s = (_, refl)
accepts (shared_value n list a) s = (_, refl)
accepts (shared_run n list script work) s = (_, ap ran_outcome s.is)
accepts (shared_settle n list script work out) s = (_, ap (ran_shared (shares_of list)) s.is)

-- ---- the demand

-- There is an outcome, for every call.
pub answered : (c : Call) → Called c (answers c) (leaves c)
answered c = record { answer = refl; left = refl }

module _ (c : Call) (o : Outcome) (buffers : List (List ℕ)) (called : Called c o buffers) where
  -- Bad input is refused: by the number and the place of the first in order that is wrong; and nothing is written.
  pub wrong_refused : (number place : ℕ) → FirstWrong (faults c) number place → (o ≡ refused (refusal number place)) × (buffers ≡ lent c)
  wrong_refused number place f = go (judged c)
    where
      go : Outcomes c → (o ≡ refused (refusal number place)) × (buffers ≡ lent c)
      go (judging.wrong m p g e k) =
          let same = first_only (faults c) m number p place g f in
          (called.answer ∙ e ∙ (λ i. refused (refusal (same.0 i) (same.1 i))), called.left ∙ k)
      go (judging.right none e k) = absurd (not_none (faults c) number place f none)

  -- Nothing else is: what is refused was wrong, and the first in order, and nothing was written; or a step of the script was, where nothing
  -- before the steps was wrong, and then every byte of the work buffer is zero, of an index buffer and of its starts too, and no list is handed out.
  pub refused_call : (r : Refusal) → o ≡ refused r → RefusedBefore r buffers c ⊎ RefusedAtStep r buffers c
  refused_call r is = go (judged c)
    where
      go : Outcomes c → RefusedBefore r buffers c ⊎ RefusedAtStep r buffers c
      go (judging.wrong m p g e k) =
          let same : refusal m p ≡ r = refused_same (sym e ∙ sym called.answer ∙ is) in
          inl (record {
            wrong = subst (λ (x : Refusal). FirstWrong (faults c) x.number x.place) same g;
            number = ap (λ (x : Refusal). before_steps x.number) (sym same) ∙ first_number (faults c) (numbered c) m p g;
            third = sym (ap (λ (x : Refusal). x.differing) same);
            nothing_written = called.left ∙ k;
          })
      go (judging.right none e k) = inr (at_step_lem c r buffers none (sym e ∙ sym called.answer ∙ is) (called.left ∙ k))

  -- Every refusal is by 1 to 9, 14, 15, 20, 21 or 25, found before the first step, or by 10, 11, 13 or one of 16 to 19, of shared products also by 22 or 23, found
  -- at a step. So none is 0.
  pub refused_number : (r : Refusal) → o ≡ refused r → (before_steps r.number ≡ true) ⊎ (at_steps c r.number ≡ true)
  refused_number r is = go (refused_call r is)
    where
      go : RefusedBefore r buffers c ⊎ RefusedAtStep r buffers c → (before_steps r.number ≡ true) ⊎ (at_steps c r.number ≡ true)
      go (inl b) = inl b.number
      go (inr s) = inr (step_number_is s)

  pub refused_above_0 : (r : Refusal) → o ≡ refused r → 1 ≤ r.number
  refused_above_0 r is = go (refused_call r is)
    where
      above : (k : ℕ) → (before_steps k ≡ true) ⊎ (by_shared k ≡ true) → 1 ≤ k
      above zero (inl e) = absurd (true≢false (sym e))
      above zero (inr e) = absurd (true≢false (sym e))
      above (suc k) e = omega arith

      go : RefusedBefore r buffers c ⊎ RefusedAtStep r buffers c → 1 ≤ r.number
      go (inl b) = above r.number (inl b.number)
      go (inr s) = above r.number (inr (step_told s).number_is)

  -- The third answer is 0 in every refusal but 16 to 19.
  pub third_zero : (r : Refusal) → o ≡ refused r → by_cubes r.number ≡ false → r.differing ≡ 0
  third_zero r is no₁ = go (refused_call r is)
    where
      go : RefusedBefore r buffers c ⊎ RefusedAtStep r buffers c → r.differing ≡ 0
      go (inl b) = b.third
      go (inr s) = (step_told s).third_else no₁

  -- Of an accepted call nothing is wrong ..
  pub accepted_not_wrong : (v : List ℕ) → o ≡ accepted v → NoneWrong (faults c)
  accepted_not_wrong v is = go (judged c)
    where
      go : Outcomes c → NoneWrong (faults c)
      go (judging.wrong m p g e k) = absurd (not_both (sym is ∙ called.answer ∙ e))
      go (judging.right none e k) = none

  -- .. and where nothing is, the call answers and leaves what document 01 says of an accepted one, or is refused at a step; ..
  pub not_wrong_goes_on : NoneWrong (faults c) → (o ≡ goes_on c) × (buffers ≡ goes_on_leaving c)
  not_wrong_goes_on fine = go (judged c)
    where
      go : Outcomes c → (o ≡ goes_on c) × (buffers ≡ goes_on_leaving c)
      go (judging.wrong m p g e k) = absurd (not_none (faults c) m p g fine)
      go (judging.right none e k) = (called.answer ∙ e, called.left ∙ k)

  -- .. refused exactly by the step that is refused, and with the third answer of that step, ..
  pub not_wrong_stops : NoneWrong (faults c) → (why : StepRefusal) (k : ℕ) → ScriptStops why k c → o ≡ refused (at_step why k)
  not_wrong_stops fine why k s = (not_wrong_goes_on fine).0 ∙ refuses s

  -- .. and it is accepted where the script, if the call has one, ends.
  pub not_wrong_accepted : NoneWrong (faults c) → ScriptEnds c → (v : List ℕ) × (o ≡ accepted v)
  not_wrong_accepted fine s = let a = accepts c s in (a.0, (not_wrong_goes_on fine).0 ∙ a.1)

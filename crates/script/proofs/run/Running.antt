-- The loop over the steps of a script: its invariant is one record, with the laws of its start, its turn, a refusal and its end. For any kind of record and of step.
-- Assumes nothing.
use mathlib.Core.Path.{◌≡◌, refl, sym, ap, ap₂, ◌∙◌}
use mathlib.Core.Bool.{Bool, true}
use mathlib.Core.List.{List, [], ◌∷◌}
use Prim.Native.Nat.{ℕ, suc, ◌+◌, ◌/◌, ◌≤◌, ◌<◌, max}
use native.Mathlib.Numerals.{add-one}
use native.Mathlib.Omega.{arith}
use lib.ListN.{length, drop, get_or, drop_of_length-le}
use lib.Seq.{drop-cons}
use Rattle.std.specs.Prelude.{Result, Ok, Err}
use Rattle.bits.specs.Sums.{All}
use Rattle.bits.proofs.Sums.{all_get}
use Rattle.records.specs.declared.Refusal.{Refusal}
use Rattle.records.specs.Records.{Codec, records, list_of, image, zeros}
use Rattle.records.proofs.Records.{length_records, length_list}
use Rattle.steps.specs.declared.StepRecord.{StepRecord}
use Rattle.steps.specs.declared.StepRefusal.{StepRefusal}
use Rattle.steps.specs.Moves.{After, stop, next}
use Rattle.script.specs.declared.Ended.{Ended}
use Rattle.script.specs.Carrying.{Carries}
use Rattle.script.specs.Run.{Ran, ended, onward, steps_from}
use Rattle.script.specs.Pending.{none_pending, pend_by}
use Rattle.script.specs.Scripts.{step_records, step_width}
use Rattle.script.specs.Calls.{at_step, ran_work_by}
use Rattle.script.specs.Progress.{reached, SteppingBy}
use Rattle.script.proofs.Carrying.{carries_ready}

-- ---- the step at a place of a script

module _ (script : List ℕ) (k : ℕ) (x : StepRecord) (is : x ≡ get_or (list_of step_records script) k step_records.none) (h : k < length script / step_width) where
  place : k < length (list_of step_records script)
  place = omega (arith, length_list step_records script)

  -- it passes the test that every step of the script passes
  pub record_passes : (test : StepRecord → Bool) → All (λ r. test r ≡ true) (list_of step_records script) → test x ≡ true
  record_passes test all = ap test is ∙ all_get (λ r. test r ≡ true) (list_of step_records script) k step_records.none all place

  -- what is left of the script from it on
  pub steps_on : drop k (list_of step_records script) ≡ x ∷ drop (k + 1) (list_of step_records script)
  steps_on =
      drop-cons (list_of step_records script) k step_records.none place
      ∙ ap₂ (λ (y : StepRecord) (j : ℕ). y ∷ drop j (list_of step_records script)) (sym is) (sym (add-one k))

-- ---- the loop

-- k of the steps xs are done: the whole run is the rest of it, from a list of so many records with so great a peak, with the orders os pending and the work buffer b
pub record RunningBy {A X : Type 0} (C : Codec A) (σ : X → List A → After A) (pend_one : List ℕ → X → List ℕ) (first : ℕ) (xs : List X)
    (work : List ℕ) (k : ℕ) (b os : List ℕ) (count peak : ℕ) : Type 0 where
  pub long : length b ≡ length work
  pub so_far : steps_from σ 0 first xs (records C first work) ≡ steps_from σ k peak (drop k xs) (records C count b)
  pub orders : pend_by pend_one none_pending xs ≡ pend_by pend_one os (drop k xs)

module _ {A X : Type 0} (C : Codec A) (σ : X → List A → After A) (pend_one : List ℕ → X → List ℕ) (first : ℕ) (xs : List X) (work : List ℕ) where
  pub running_none : RunningBy C σ pend_one first xs work 0 work none_pending first first
  running_none = record { long = refl; so_far = refl; orders = refl }

  module _ (k : ℕ) (b os : List ℕ) (count peak : ℕ) (r : RunningBy C σ pend_one first xs work k b os count peak) where
    -- all steps are done
    pub running_end : (test : A → Bool) (n cap : ℕ) → Carries C test n count cap b → length xs ≤ k
        → SteppingBy C σ (λ a. test a ≡ true) n cap first xs (pend_by pend_one none_pending xs) work b (Ok (record { count = count; peak = peak; pending = os }))
    unfolding steps_from pend_by
    running_end test n cap carries h =
        let none : drop k xs ≡ [] = drop_of_length-le xs {i = k} h in
        let l : List A = records C count b in
        let whole : steps_from σ 0 first xs (records C first work) ≡ ended l peak =
        r.so_far ∙ ap (λ (ys : List X). steps_from σ k peak ys l) none in
        let all : pend_by pend_one none_pending xs ≡ os = r.orders ∙ ap (pend_by pend_one os) none in
        record {
          answer =
              ◌∙◌ {A = Result Ended Refusal} (λ j. Ok (record { count = sym (length_records C count b) j; peak = peak; pending = sym all j }))
              (sym (ap (λ (t : Ran A). reached t (pend_by pend_one none_pending xs)) whole));
          buffer = carries.held ∙ ap (λ (room : ℕ). image C room l) r.long ∙ sym (ap (ran_work_by C (length work)) whole);
          ready = carries_ready C test (λ a. test a ≡ true) n count cap b (λ a e. e) carries;
        }

    -- step k is y
    module _ (y : X) (on : drop k xs ≡ y ∷ drop (k + 1) xs) where
      abbrev go_on : List A → Ran A
      go_on m = steps_from σ (suc k) (max peak (length m)) (drop (k + 1) xs) m

      onto : (e : After A) → σ y (records C count b) ≡ e → steps_from σ 0 first xs (records C first work) ≡ onward k go_on e
      unfolding steps_from
      onto e is = r.so_far ∙ ap (λ (ys : List X). steps_from σ k peak ys (records C count b)) on ∙ ap (onward k go_on) is

      -- it is refused
      pub running_stop : (Fine : A → Type 0) (n cap : ℕ) (why : StepRefusal) → σ y (records C count b) ≡ stop why → (q : Refusal) → q ≡ at_step why k
          → (b' b₂ : List ℕ) → length b₂ ≡ length b → b' ≡ zeros (length b₂)
          → SteppingBy C σ Fine n cap first xs (pend_by pend_one none_pending xs) work b' (Err q)
      running_stop Fine n cap why is q eq b' b₂ long cleared =
          let stops = onto (stop why) is in
          record {
            answer = ap Err eq ∙ sym (ap (λ (t : Ran A). reached t (pend_by pend_one none_pending xs)) stops);
            buffer = cleared ∙ ap zeros (long ∙ r.long) ∙ sym (ap (ran_work_by C (length work)) stops);
            ready = tt;
          }

      -- it is done
      pub running_more : (count' : ℕ) (b' : List ℕ) → σ y (records C count b) ≡ next (records C count' b') → length b' ≡ length b
          → (os' : List ℕ) → os' ≡ pend_one os y → RunningBy C σ pend_one first xs work (k + 1) b' os' count' (max peak count')
      unfolding pend_by
      running_more count' b' is long os' eo =
          let m : List A = records C count' b' in
          record {
            long = long ∙ r.long;
            so_far =
                onto (next m) is ∙ ap₂ (λ (s q : ℕ). steps_from σ s (max peak q) (drop (k + 1) xs) m) (sym (add-one k)) (length_records C count' b');
            orders = r.orders ∙ ap (pend_by pend_one os) on ∙ ap (λ (ps : List ℕ). pend_by pend_one ps (drop (k + 1) xs)) (sym eo);
          }

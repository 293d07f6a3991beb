-- What a call that settles knows of the run it makes, on any kind of record: it was refused before the first step, or at a step; or it ended, and the bytes of
-- its list are the front of the work buffer.
-- Assumes nothing.
use mathlib.Core.Path.{◌≡◌, refl, sym, ap, ap₂, ◌∙◌, subst}
use mathlib.Core.List.{List, [], ◌∷◌}
use Prim.Native.Nat.{ℕ, ◌*◌, ◌≤◌}
use lib.ListN.{length, get_or, take}
use lib.Seq.{take-append_seam}
use Rattle.records.specs.declared.Refusal.{Refusal}
use Rattle.records.specs.Records.{Codec, Holds, flat, filled, image, list_of, zeros}
use Rattle.records.specs.Answers.{Outcome, accepted, refused, and_then, after_call}
use Rattle.records.proofs.Answers.{not_both, accepted_values}
use Rattle.records.proofs.Images.{length_flat}
use Rattle.records.proofs.Records.{Lawful, holds_fits, image_holds, list_flat}
use Rattle.steps.specs.declared.StepRefusal.{StepRefusal}
use Rattle.script.specs.Run.{Ran, stopped, ended}
use Rattle.script.specs.Calls.{at_step, ran_outcome, work_after_by}

-- ---- what a call that settles answers and leaves, by what is found before the first step: what the run makes it answer, a cleared work buffer and what is burned; or
-- the refusal, and both buffers as they were

pub record SettledBy (check told : Outcome) (work out burned : List ℕ) (o : Outcome) (work' out' : List ℕ) : Type 0 where
  pub answer : o ≡ and_then check told
  pub work_is : work' ≡ after_call check (zeros (length work)) work
  pub out_is : out' ≡ after_call check burned out

module _ (check told : Outcome) (work out burned : List ℕ) where
  pub settled_before : (r : Refusal) → check ≡ refused r → SettledBy check told work out burned (refused r) work out
  settled_before r e = record {
    answer = sym (ap (λ (x : Outcome). and_then x told) e);
    work_is = sym (ap (λ (x : Outcome). after_call x (zeros (length work)) work) e);
    out_is = sym (ap (λ (x : Outcome). after_call x burned out) e);
  }

  pub settled_after : (v : List ℕ) → check ≡ accepted v → (o : Outcome) → o ≡ told → (work' : List ℕ) → work' ≡ zeros (length work) → (out' : List ℕ) → out' ≡ burned
      → SettledBy check told work out burned o work' out'
  settled_after v e o eo work' ew out' ex = record {
    answer = eo ∙ sym (ap (λ (x : Outcome). and_then x told) e);
    work_is = ew ∙ sym (ap (λ (x : Outcome). after_call x (zeros (length work)) work) e);
    out_is = ex ∙ sym (ap (λ (x : Outcome). after_call x burned out) e);
  }

-- ---- the run

-- it ended: its list fills the front of the work buffer
pub record RanTo {A : Type 0} (C : Codec A) (check : Outcome) (ran : Ran A) (work work' : List ℕ) (count peak : ℕ) : Type 0 where
  pub values : List ℕ
  pub checked : check ≡ accepted values
  pub result : List A
  pub is : ran ≡ ended result peak
  pub many : count ≡ length result
  pub buffer : work' ≡ image C (length work) result

module _ {A : Type 0} (C : Codec A) (check : Outcome) (ran : Ran A) (work work' : List ℕ) (left : work' ≡ work_after_by C check work ran) where
  -- refused: before the first step, or at a step, where the call says what the run says and burns nothing
  pub settled_refused : (told : Ran A → Outcome) (burned : Ran A → List ℕ) (out : List ℕ)
      → ((why : StepRefusal) (step : ℕ) → told (stopped why step) ≡ refused (at_step why step)) → ((why : StepRefusal) (step : ℕ) → burned (stopped why step) ≡ out)
      → (r : Refusal) → refused r ≡ and_then check (ran_outcome ran) → SettledBy check (told ran) work out (burned ran) (refused r) work' out
  settled_refused told burned out tells burns r e = go check ran refl refl e left
    where
      go : (o : Outcome) (t : Ran A) → check ≡ o → ran ≡ t → refused r ≡ and_then o (ran_outcome t) → work' ≡ work_after_by C o work t
          → SettledBy check (told ran) work out (burned ran) (refused r) work' out
      go (refused q) t eo et a w =
          subst (λ (b : List ℕ). SettledBy check (told ran) work out (burned ran) (refused r) b out) (sym w)
          (settled_before check (told ran) work out (burned ran) r (eo ∙ sym a))
      go (accepted v) (stopped why step) eo et a w =
          settled_after check (told ran) work out (burned ran) v eo (refused r) (a ∙ sym (ap told et ∙ tells why step)) work' w out (sym (ap burned et ∙ burns why step))
      go (accepted v) (ended m p) eo et a w = absurd (not_both (sym a))

  -- ended
  pub ran_to : (count peak : ℕ) → accepted (count ∷ peak ∷ []) ≡ and_then check (ran_outcome ran) → RanTo C check ran work work' count peak
  ran_to count peak e = go check ran refl refl e left
    where
      go : (o : Outcome) (t : Ran A) → check ≡ o → ran ≡ t → accepted (count ∷ peak ∷ []) ≡ and_then o (ran_outcome t) → work' ≡ work_after_by C o work t
          → RanTo C check ran work work' count peak
      go (accepted v) (stopped why step) eo et a w = absurd (not_both a)
      go (accepted v) (ended m p) eo et a w = record {
        values = v;
        checked = eo;
        result = m;
        is = et ∙ ap (ended m) (sym (ap (λ (x : List ℕ). get_or x 1 0) (accepted_values a)));
        many = ap (λ (x : List ℕ). get_or x 0 0) (accepted_values a);
        buffer = w;
      }
      go (refused q) t eo et a w = absurd (not_both a)

module _ {A : Type 0} (C : Codec A) (K : Lawful C) (check : Outcome) (ran : Ran A) (work work' : List ℕ) (count peak : ℕ) (t : RanTo C check ran work work' count peak) where
  -- the bytes of the list are the front of the work buffer, which has room for them
  pub result_end : C.width * length t.result ≤ length work → C.width * count ≤ length work'
  result_end fits =
      subst (λ (k : ℕ). C.width * k ≤ length work') (sym t.many)
      (holds_fits C K work' t.result (subst (λ (b : List ℕ). Holds C b t.result) (sym t.buffer) (image_holds C K (length work) t.result fits)))

  pub front_is : (front : List ℕ) → front ≡ take (C.width * count) work' → front ≡ flat C.enc t.result
  unfolding image filled
  front_is front e =
      e
      ∙ ap₂ take (ap (λ (k : ℕ). C.width * k) t.many ∙ sym (length_flat C.enc C.width K.len t.result)) t.buffer
      ∙ take-append_seam (flat C.enc t.result) _

  pub result_is : (front : List ℕ) → front ≡ take (C.width * count) work' → list_of C front ≡ t.result
  result_is front e = ap (list_of C) (front_is front e) ∙ list_flat C K t.result

  pub front_long : (front : List ℕ) → front ≡ take (C.width * count) work' → length front ≡ C.width * count
  front_long front e =
      ap length (front_is front e) ∙ length_flat C.enc C.width K.len t.result ∙ ap (λ (k : ℕ). C.width * k) (sym t.many)

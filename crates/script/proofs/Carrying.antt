-- A work buffer that carries records which pass a test is ready for the steps of such records, and the other way; and what a step on it answers and leaves.
-- Assumes nothing.
use mathlib.Core.Path.{◌≡◌, refl, sym, ap, ◌∙◌, subst}
use mathlib.Core.Bool.{Bool, true}
use mathlib.Core.List.{List, map}
use Prim.Native.Nat.{ℕ, ◌*◌, ◌≤◌, max}
use native.Mathlib.Nat.{sub-zero}
use native.Mathlib.Omega.{arith}
use lib.ListN.{length, length-map, length-replicate}
use Rattle.std.specs.Prelude.{Result, Ok, Err, IfOk, IfErr, OnErr}
use Rattle.bits.specs.Below.{list_below}
use Rattle.bits.specs.Sums.{All, first_bad}
use Rattle.bits.proofs.Sums.{all_each, all_map, first_none, none_first}
use Rattle.records.specs.Records.{Codec, Held, Holds, records, filled, image, zeros}
use Rattle.records.proofs.Images.{length_image}
use Rattle.records.proofs.Records.{Lawful, length_records, held_fits, holds_held, holds_records, image_holds}
use Rattle.cube.specs.Lists.{most_variables}
use Rattle.steps.specs.declared.StepRefusal.{StepRefusal}
use Rattle.steps.specs.Moves.{After, stop, next}
use Rattle.steps.specs.Calls.{ReadyBy, stepped, stepped_by}
use Rattle.steps.proofs.Onward.{Stepwise, onward_records, onward_long, onward_ready}
use Rattle.script.specs.Carrying.{Carries}

module _ {A : Type 0} (C : Codec A) (test : A → Bool) (Fine : A → Type 0) (n count cap : ℕ) (w : List ℕ) where
  pub carries_ready : ((a : A) → test a ≡ true → Fine a) → Carries C test n count cap w → ReadyBy C Fine n count cap w
  unfolding Held Holds
  carries_ready h c = record {
    held = c.held;
    good = all_each (λ a. test a ≡ true) Fine h (records C count w) (first_none test (records C count w) (c.good ∙ sym (length_records C count w)));
    few = c.few;
    room = c.room;
  }

  pub ready_carries : ((a : A) → Fine a → test a ≡ true) → ReadyBy C Fine n count cap w → Carries C test n count cap w
  unfolding Held Holds
  ready_carries h r = record {
    held = r.held;
    good = none_first test (records C count w) (all_each Fine (λ a. test a ≡ true) h (records C count w) r.good) ∙ length_records C count w;
    few = r.few;
    room = r.room;
  }

  pub carries_all : Carries C test n count cap w → All (λ a. test a ≡ true) (records C count w)
  carries_all c = first_none test (records C count w) (c.good ∙ sym (length_records C count w))

-- no record, in a buffer that was cleared
pub carries_none : {A : Type 0} (C : Codec A) (test : A → Bool) (n cap room : ℕ) → n ≤ most_variables → C.width * cap ≤ room → (w : List ℕ) → w ≡ zeros room
    → Carries C test n 0 cap w
unfolding image filled records list_below first_bad
carries_none C test n cap room few fits w e = record {
  held = e ∙ ap zeros (sym (length-replicate {A = ℕ} room 0) ∙ ap length (sym e)) ∙ sym (ap zeros (sub-zero (length w)));
  good = refl;
  few = few;
  room = omega (arith, fits, length-replicate {A = ℕ} room 0, ap length e);
}

-- every record changed by f, which keeps what passes
module _ {A : Type 0} (C : Codec A) (K : Lawful C) (test : A → Bool) (n count cap : ℕ) (b : List ℕ) (c : Carries C test n count cap b) (f : A → A)
    (b' : List ℕ) (e : b' ≡ image C (length b) (map f (records C count b))) where
  abbrev changed : List A
  changed = map f (records C count b)

  many : length changed ≡ count
  many = length-map (records C count b) f ∙ length_records C count b

  held : Held C count b
  unfolding Held Holds
  held = c.held

  fits : C.width * length changed ≤ length b
  fits = subst (λ (k : ℕ). C.width * k ≤ length b) (sym many) (held_fits C K count b held)

  holds : Holds C b' changed
  holds = subst (λ (t : List ℕ). Holds C t changed) (sym e) (image_holds C K (length b) changed fits)

  pub changed_records : records C count b' ≡ map f (records C count b)
  changed_records = ap (λ (k : ℕ). records C k b') (sym many) ∙ holds_records C K b' changed holds

  pub changed_long : length b' ≡ length b
  unfolding image
  changed_long = ap length e ∙ length_image C.enc C.width K.len (length b) changed fits

  pub changed_carries : ((a : A) → test a ≡ true → test (f a) ≡ true) → Carries C test n count cap b'
  changed_carries kept = ready_carries C test (λ a. test a ≡ true) n count cap b' (λ a p. p) (record {
    held = subst (λ (k : ℕ). Held C k b') many (holds_held C K b' changed holds);
    good =
        subst (All (λ a. test a ≡ true)) (sym changed_records)
        (all_map (λ a. test a ≡ true) (λ a. test a ≡ true) f kept (records C count b) (carries_all C test (λ a. test a ≡ true) n count cap b c));
    few = c.few;
    room = subst (λ (k : ℕ). C.width * cap ≤ k) (sym changed_long) c.room;
  })

-- what a step answers and leaves, in the words of a list that a script runs on
pub record Did {A X : Type 0} (C : Codec A) (σ : X → List A → After A) (test : A → Bool) (n cap count : ℕ) (b b' : List ℕ) (x : X) (r : Result ℕ StepRefusal) : Type 0 where
  pub done : IfOk r (λ c. σ x (records C count b) ≡ next (records C c b'))
  pub most : IfOk r (λ c. c ≤ max cap count)
  pub ready : IfOk r (λ c. Carries C test n c cap b')
  pub refused : IfErr r (λ why. σ x (records C count b) ≡ stop why)
  pub kept : OnErr r (b' ≡ b)
  pub long : length b' ≡ length b

module _ {A X : Type 0} (C : Codec A) (σ : X → List A → After A) (test : A → Bool) (Fine : A → Type 0) (Allowed : X → Type 0) (n cap : ℕ)
    (K : Stepwise C σ Fine Allowed cap) (count : ℕ) (b b' : List ℕ) (x : X) (ready : ReadyBy C Fine n count cap b) (allowed : Allowed x)
    (passes : (a : A) → Fine a → test a ≡ true) (r : Result ℕ StepRefusal)
    (er : r ≡ stepped (σ x (records C count b))) (eb : b' ≡ stepped_by C b (σ x (records C count b))) where
  pub did : Did C σ test n cap count b b' x r
  did = go (σ x (records C count b)) refl
    where
      go : (e : After A) → σ x (records C count b) ≡ e → Did C σ test n cap count b b' x r
      go (stop why) e =
          let is : r ≡ Err why = er ∙ ap stepped e in
          let same : b' ≡ b = eb ∙ ap (stepped_by C b) e in
          record {
            done = subst (λ (q : Result ℕ StepRefusal). IfOk q (λ c. σ x (records C count b) ≡ next (records C c b'))) (sym is) tt;
            most = subst (λ (q : Result ℕ StepRefusal). IfOk q (λ c. c ≤ max cap count)) (sym is) tt;
            ready = subst (λ (q : Result ℕ StepRefusal). IfOk q (λ c. Carries C test n c cap b')) (sym is) tt;
            refused = subst (λ (q : Result ℕ StepRefusal). IfErr q (λ w. σ x (records C count b) ≡ stop w)) (sym is) e;
            kept = subst (λ (q : Result ℕ StepRefusal). OnErr q (b' ≡ b)) (sym is) same;
            long = ap length same;
          }
      go (next m) e =
          let is : r ≡ Ok (length m) = er ∙ ap stepped e in
          let left : b' ≡ image C (length b) m = eb ∙ ap (stepped_by C b) e in
          let list : records C (length m) b' ≡ m = onward_records C σ Fine Allowed n cap K count b b' x m ready e left in
          record {
            done = subst (λ (q : Result ℕ StepRefusal). IfOk q (λ c. σ x (records C count b) ≡ next (records C c b'))) (sym is) (e ∙ ap next (sym list));
            most =
                subst (λ (q : Result ℕ StepRefusal). IfOk q (λ c. c ≤ max cap count)) (sym is)
                (subst (λ (k : ℕ). length m ≤ max cap k) (length_records C count b) (K.most x (records C count b) m e));
            ready =
                subst (λ (q : Result ℕ StepRefusal). IfOk q (λ c. Carries C test n c cap b')) (sym is)
                (ready_carries C test Fine n (length m) cap b' passes (onward_ready C σ Fine Allowed n cap K count b b' x m ready e left allowed));
            refused = subst (λ (q : Result ℕ StepRefusal). IfErr q (λ w. σ x (records C count b) ≡ stop w)) (sym is) tt;
            kept = subst (λ (q : Result ℕ StepRefusal). OnErr q (b' ≡ b)) (sym is) tt;
            long = onward_long C σ Fine Allowed n cap K count b b' x m ready e left;
          }

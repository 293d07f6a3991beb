-- A step of any kind that is done, on a buffer of any kind of record: the next list fits the buffer, stands in it, and the buffer is ready for the next step.
-- Assumes nothing.
use mathlib.Core.Path.{◌≡◌, sym, ap, ◌∙◌, subst}
use mathlib.Core.List.{List}
use Prim.Native.Nat.{ℕ, ◌*◌, ◌≤◌, max}
use native.Mathlib.Nat.{le_trans, mul-le-mul_left}
use native.Mathlib.Decide.{dec_le}
use native.Mathlib.Omega.{arith}
use lib.ListN.{length}
use Rattle.bits.specs.Sums.{All}
use Rattle.records.specs.Records.{Codec, Holds, Held, records, image}
use Rattle.records.proofs.Images.{length_image}
use Rattle.records.proofs.Records.{Lawful, length_records, held_fits, holds_held, holds_records, image_holds}
use Rattle.steps.specs.Moves.{After, next}
use Rattle.steps.specs.Calls.{ReadyBy}

-- what is asked of a kind of step σ on a kind of record C: an allowed step keeps a fine list fine, and none adds a record above the capacity
pub record Stepwise {A X : Type 0} (C : Codec A) (σ : X → List A → After A) (Fine : A → Type 0) (Allowed : X → Type 0) (cap : ℕ) : Type 0 where
  pub lawful : Lawful C
  pub good : (x : X) (l m : List A) → Allowed x → All Fine l → σ x l ≡ next m → All Fine m
  pub most : (x : X) (l m : List A) → σ x l ≡ next m → length m ≤ max cap (length l)

-- room for each of two numbers of records is room for the greater
max_room : (w a b n : ℕ) → w * a ≤ n → w * b ≤ n → w * max a b ≤ n
max_room w a b n h k =
    elim (dec_le a b) [
      | yes l ↦ subst (λ (c : ℕ). w * c ≤ n) (omega arith) k
      | no l ↦ subst (λ (c : ℕ). w * c ≤ n) (omega arith) h
    ]

module _ {A X : Type 0} (C : Codec A) (σ : X → List A → After A) (Fine : A → Type 0) (Allowed : X → Type 0) (n cap : ℕ) (K : Stepwise C σ Fine Allowed cap)
    (count : ℕ) (b b' : List ℕ) (x : X) (m : List A) (ready : ReadyBy C Fine n count cap b) (e : σ x (records C count b) ≡ next m)
    (is : b' ≡ image C (length b) m) where
  onward_room : C.width * length m ≤ length b
  onward_room =
      le_trans (mul-le-mul_left C.width (K.most x (records C count b) m e))
      (max_room C.width cap (length (records C count b)) (length b) ready.room
      (subst (λ (k : ℕ). C.width * k ≤ length b) (sym (length_records C count b)) (held_fits C K.lawful count b ready.held)))

  onward_holds : Holds C b' m
  onward_holds = subst (λ (t : List ℕ). Holds C t m) (sym is) (image_holds C K.lawful (length b) m onward_room)

  -- the records of the buffer are the next list
  pub onward_records : records C (length m) b' ≡ m
  onward_records = holds_records C K.lawful b' m onward_holds

  pub onward_long : length b' ≡ length b
  unfolding image
  onward_long = ap length is ∙ length_image C.enc C.width K.lawful.len (length b) m onward_room

  -- and it is ready for the next step
  pub onward_ready : Allowed x → ReadyBy C Fine n (length m) cap b'
  onward_ready fits = record {
    held = holds_held C K.lawful b' m onward_holds;
    good = subst (All Fine) (sym onward_records) (K.good x (records C count b) m fits ready.good e);
    few = ready.few;
    room = subst (λ (k : ℕ). C.width * cap ≤ k) (sym onward_long) ready.room;
  }

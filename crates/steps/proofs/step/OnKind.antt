-- A step on the records of a buffer, of any kind whose steps are decided: what each call asks, and what the step answers and leaves.
-- Assumes nothing.
use mathlib.Core.Path.{◌≡◌, sym, ap, ◌∙◌, subst}
use mathlib.Core.List.{List, map}
use Prim.Native.Nat.{ℕ, ◌/◌, ◌*◌, ◌≤◌}
use native.Mathlib.Nat.{le-div_iff_mul-le, mul_comm}
use native.Mathlib.Omega.{arith}
use lib.ListN.{length, get_or, length-map}
use Rattle.std.specs.Prelude.{Result, Ok}
use Rattle.bits.specs.Sums.{All}
use Rattle.bits.proofs.Sums.{all_each, all_get_or}
use Rattle.records.specs.Records.{Codec, records, image}
use Rattle.records.proofs.Records.{Lawful, length_records}
use Rattle.orders.specs.Orders.{letter_order}
use Rattle.steps.specs.declared.StepRecord.{StepRecord}
use Rattle.steps.specs.declared.StepRefusal.{StepRefusal}
use Rattle.steps.specs.Moves.{Move, After, applied}
use Rattle.steps.specs.Changes.{Placed, DoneBy}
use Rattle.steps.specs.Kinds.{DecidedOn, IsLetter}
use Rattle.steps.proofs.Balanced.{placed_more}

module _ {A : Type 0} (C : Codec A) (K : Lawful C) (count : ℕ) (b : List ℕ) where
  -- what is true of every record and of the one past the end is true of what is looked at
  pub look_sound : (Fine Sound : A → Type 0) → ((a : A) → Fine a → Sound a) → Sound C.none → All Fine (records C count b)
      → (i : ℕ) (a : A) → a ≡ get_or (records C count b) i C.none → Sound a
  look_sound Fine Sound sound none all i a e =
      subst Sound (sym e) (all_get_or Sound (records C count b) i C.none (all_each Fine Sound sound (records C count b) all) none)

  pub letter_made : (σ : List A → After A) (moved : ℕ → ℕ → A → A) (n : ℕ) (x : StepRecord) → IsLetter σ moved n x
      → (o : ℕ) (b' : List ℕ) → o ≡ letter_order x.literal → b' ≡ image C (length b) (map (moved x.v o) (records C count b))
      → DoneBy C b b' (σ (records C count b)) (Ok count)
  letter_made σ moved n x letter o b' eo e =
      let l : List A = records C count b in
      subst (λ (y : After A). DoneBy C b b' y (Ok count)) (sym (letter.is l)) (record {
        answer = ap Ok (sym (length-map l (moved x.v (letter_order x.literal)) ∙ length_records C count b));
        buffer = e ∙ ap (λ (p : ℕ). image C (length b) (map (moved x.v p) l)) eo;
      })

  module _ (σ : List A → After A) (cap i j : ℕ) (u v : A) (m : Move A) (made : DecidedOn C σ count cap i j u v m) where
    pub change_placed : C.width * cap ≤ length b → Placed count (length b / C.width) i j m
    change_placed room = placed_more count cap (length b / C.width) i j m (room_whole room) made.placed
      where
        room_whole : C.width * cap ≤ length b → cap ≤ length b / C.width
        room_whole h = (le-div_iff_mul-le K.wide).1 (omega (arith, h, mul_comm C.width cap))

    pub change_made : u ≡ get_or (records C count b) i C.none → v ≡ get_or (records C count b) j C.none
        → (b' : List ℕ) (r : Result ℕ StepRefusal) → DoneBy C b b' (applied C.none i j (records C count b) m) r → DoneBy C b b' (σ (records C count b)) r
    change_made eu ev b' r done = subst (λ (y : After A). DoneBy C b b' y r) (sym (made.is (records C count b) (length_records C count b) eu ev)) done

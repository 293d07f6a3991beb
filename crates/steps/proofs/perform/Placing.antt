-- Places of a buffer that a step writes one after the other, and a join of two of them.
-- Assumes nothing.
use mathlib.Core.Path.{◌≡◌, sym, ap, ◌∙◌, subst}
use mathlib.Core.List.{List}
use Prim.Native.Nat.{ℕ, zero, suc, ◌-◌, ◌/◌, ◌≤◌, ◌<◌, min, zero-le}
use native.Mathlib.Omega.{arith}
use lib.ListN.{length}
use Rattle.records.specs.Places.{remove_at}
use Rattle.records.specs.Records.{Codec, stored, records, image, Held}
use Rattle.records.proofs.Records.{Lawful, length_stored, held_place}
use Rattle.steps.specs.Moves.{join_at}
use Rattle.steps.specs.Effects.{TwoPlaces}
use Rattle.steps.proofs.perform.Performing.{stored_held, joined_many, joined_image}

-- a place is one still after a record was stored
pub still_place : {A : Type 0} (C : Codec A) (i j : ℕ) (b b₁ : List ℕ) (a : A) → b₁ ≡ stored C b j a → i < length b / C.width → i < length b₁ / C.width
still_place C i j b b₁ a e h = subst (λ (n : ℕ). i < n / C.width) (sym (ap length e ∙ length_stored C b j a)) h

-- the lesser of two places is one still after the greater is removed
pub lesser_place : (k i j lo : ℕ) → TwoPlaces k i j → lo ≡ min i j → lo < k - 1
lesser_place k i j lo two e = omega (arith, two.first, two.second, two.unlike)

-- a buffer that holds k records has room for them
pub held_room : {A : Type 0} (C : Codec A) → Lawful C → (k : ℕ) (b : List ℕ) → Held C k b → k ≤ length b / C.width
held_room C K zero b h = zero-le
held_room C K (suc k) b h = held_place C K (suc k) b h k (omega arith)

-- two places of the k records of a buffer, over which a third is written at i
module _ {A : Type 0} (C : Codec A) (K : Lawful C) (k i j : ℕ) (b : List ℕ) (two : TwoPlaces k i j) (h : Held C k b) where
  -- in a buffer as long as the one that was found
  pub join_place : (b₁ : List ℕ) → length b₁ ≡ length b → i < length b₁ / C.width
  join_place b₁ long = subst (λ (n : ℕ). i < n / C.width) (sym long) (held_place C K k b h i two.first)

  pub join_held : (x : A) (b₁ : List ℕ) → b₁ ≡ stored C b i x → Held C k b₁
  join_held x b₁ e = stored_held C K k i b b₁ x h two.first e

  pub join_many : (x : A) → k - 1 ≡ length (join_at C.none (records C k b) i j x)
  join_many x = joined_many C K k i j b x

  pub join_image : (x : A) (b₁ b₂ : List ℕ) → b₁ ≡ stored C b i x → b₂ ≡ image C (length b₁) (remove_at C.none (records C k b₁) j)
      → b₂ ≡ image C (length b) (join_at C.none (records C k b) i j x)
  join_image x b₁ b₂ e₁ e₂ = joined_image C K k i j b h two.first x b₁ b₂ e₁ e₂

pub join_one : (k i j : ℕ) → TwoPlaces k i j → 1 ≤ k
join_one k i j two = omega (arith, two.first)

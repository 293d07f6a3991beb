-- A function that stands at bits of four words, and its halves by the next variable: where they stand.
-- Assumes nothing.
use mathlib.Core.Path.{◌≡◌, sym, ap, ap₂, ◌∙◌}
use mathlib.Core.Bool.{Bool, cond}
use mathlib.Core.List.{List}
use Prim.Native.Nat.{ℕ, suc, ◌+◌, ◌-◌, ◌*◌, ◌%◌, ◌^◌, ◌≤◌, ◌<◌}
use native.Mathlib.Nat.{pow-suc, mul_assoc, mul_comm, zero-mul, mul-one, one-mul, add-mul, mul-lt-mul_of_pos_right}
use native.Mathlib.Omega.{arith}
use borrow.Author.Tests.{lt-ltb}
use lib.Bits.{bit_xor, xor_self, xor_zero_l}
use lib.Pow.{pow_mono, pow_pos, pow-add}
use Rattle.bits.specs.Bits.{bit}
use Rattle.bits.specs.Packed.{bit_at, packed, lowered}
use Rattle.bits.specs.declared.packed.Packed.{Packed}
use Rattle.bits.proofs.Bits.{bit_zero, bit_shl}
use Rattle.bits.proofs.packed.Words.{bit_at_lt, summed_bit}
use Rattle.bits.proofs.packed.Passes.{lowered_bit}
use Rattle.polarity.specs.Vectors.{byte_at, Vector}
use Rattle.polarity.proofs.Passes.{upper_without}
use Rattle.polarity.proofs.Shown.{shows_vector}
use Rattle.polarity.proofs.Subsets.{mask_assoc, xor_parity}
use Rattle.trees.specs.declared.Expansion.{Expansion}
use Rattle.trees.specs.declared.Expansion.TheVariants.{Shannon, Positive, Negative}
use Rattle.trees.specs.Trees.{lower, upper, change, first, second}
use Rattle.trees.specs.Words.{Stands, upper_half, first_half, second_half}

-- one variable more, twice the assignments
pub twice : (left m : ℕ) → left ≡ suc m → 2 ^ left ≡ 2 ^ m * 2
twice left m below = ap (λ (x : ℕ). 2 ^ x) below ∙ pow-suc 2 m

-- ---- the places of the two halves

module _ (k a : ℕ) where
  even_place : 2 * a * 2 ^ k ≡ a * 2 ^ suc k
  even_place = ap (λ (x : ℕ). x * 2 ^ k) (mul_comm 2 a) ∙ mul_assoc a 2 (2 ^ k) ∙ ap (λ (x : ℕ). a * x) (mul_comm 2 (2 ^ k) ∙ sym (pow-suc 2 k))

  odd_place : (2 * a + 1) * 2 ^ k ≡ a * 2 ^ suc k + 2 ^ k
  odd_place = add-mul (2 * a) 1 (2 ^ k) ∙ ap₂ (λ (x y : ℕ). x + y) even_place (one-mul (2 ^ k))

  -- the half without the variable has places without it
  without : bit (a * 2 ^ suc k) k ≡ 0
  without = bit_shl a (suc k) k ∙ ap (λ (b : Bool). cond b 0 (bit a (k - suc k))) (lt-ltb k (suc k) (omega arith))

  place_lt : (left : ℕ) → k + suc left ≤ 8 → a < 2 ^ left → a * 2 ^ suc k < 256
  place_lt left few h =
      let p : 2 ^ (left + suc k) ≤ 2 ^ 8 = pow_mono {j = 8} (omega arith) in
      omega (arith, mul-lt-mul_of_pos_right h (pow_pos (suc k)), pow-add 2 left (suc k), p)

-- ---- the functions of a node by variable k; j is the next one, and m variables are left below the node

module _ (k j left m : ℕ) (next : j ≡ suc k) (below : left ≡ suc m) (few : k + left ≤ 8) (f : ℕ → ℕ) (w : Packed) (S : Stands k left f w) where
  module _ (a : ℕ) (h : a < 2 ^ m) where
    place : a * 2 ^ j ≡ a * 2 ^ suc k
    place = ap (λ (x : ℕ). a * 2 ^ x) next

    at_even : bit_at w (a * 2 ^ j) ≡ lower f a
    at_even = ap (bit_at w) (place ∙ sym (even_place k a)) ∙ S.at (2 * a) (omega (arith, twice left m below))

    at_odd : bit_at w (a * 2 ^ j + 2 ^ k) ≡ upper f a
    at_odd = ap (bit_at w) (ap (λ (x : ℕ). x + 2 ^ k) place ∙ sym (odd_place k a)) ∙ S.at (2 * a + 1) (omega (arith, twice left m below))

    at_sum : bit_at (lowered k w) (a * 2 ^ j) ≡ bit_xor (lower f a) (upper f a)
    at_sum =
        lowered_bit k w (a * 2 ^ j) (omega arith) (rw place (place_lt k a m (omega arith) h))
        ∙ upper_without k (bit_at w) (a * 2 ^ j) (ap (λ (x : ℕ). bit x k) place ∙ without k a)
        ∙ ap₂ bit_xor at_even at_odd

    bits_of : (lower f a < 2) × (upper f a < 2)
    bits_of = (rw (sym at_even) (bit_at_lt w (a * 2 ^ j)), rw (sym at_odd) (bit_at_lt w (a * 2 ^ j + 2 ^ k)))

  pub stands_lower : Stands j m (lower f) w
  stands_lower = record { at = at_even }

  pub stands_change : Stands j m (change f) (lowered k w)
  stands_change = record { at = λ a h. at_sum a h ∙ xor_parity (lower f a) (upper f a) (bits_of a h).0 (bits_of a h).1 }

  pub stands_upper : Stands j m (upper f) (upper_half k w)
  stands_upper = record {
    at = λ a h.
        summed_bit w (lowered k w) (a * 2 ^ j) ∙ ap₂ bit_xor (at_even a h) (at_sum a h)
        ∙ mask_assoc (lower f a) (lower f a) (upper f a) ∙ ap (λ (x : ℕ). bit_xor x (upper f a)) (xor_self (lower f a)) ∙ xor_zero_l (upper f a);
  }

  pub stands_first : (e : Expansion) → Stands j m (first e f) (first_half e k w)
  stands_first Shannon = stands_lower
  stands_first Positive = stands_lower
  stands_first Negative = stands_upper

  pub stands_second : (e : Expansion) → Stands j m (second e f) (second_half e k w)
  stands_second Shannon = stands_upper
  stands_second Positive = stands_change
  stands_second Negative = stands_change

-- ---- no variable left, and all of them

-- the one value of a function of no variable is the lowest bit
pub stands_none : (k : ℕ) (f : ℕ → ℕ) (w : Packed) → Stands k 0 f w → w.a % 2 ≡ f 0
unfolding bit_at
stands_none k f w S = sym (bit_zero w.a) ∙ ap (bit_at w) (sym (zero-mul (2 ^ k))) ∙ S.at 0 (omega arith)

pub stands_vector : (n : ℕ) (l : List ℕ) → Vector n l → (w : Packed) → w ≡ packed l → Stands 0 n (byte_at l) w
stands_vector n l v w e = record { at = λ a h. ap (bit_at w) (mul-one a) ∙ (shows_vector n l v w e).low a h }

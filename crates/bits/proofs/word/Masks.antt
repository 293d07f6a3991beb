-- One word: its masks, and its bits after a pass of one variable.
-- Assumes nothing.
use mathlib.Core.Path.{◌≡◌, refl, sym, ap, ap₂, ◌∙◌, subst}
use mathlib.Core.Bool.{Bool, true, false, cond}
use Prim.Native.Nat.{ℕ, ◌+◌, ◌-◌, ◌*◌, ◌/◌, ◌%◌, ◌^◌, ◌<◌, min, zero-le}
use native.Mathlib.Nat.{min-zero}
use native.Mathlib.Omega.{arith}
use borrow.Author.Tests.{eqb-true}
use lib.Bits.{bit_and, bit_xor, differ}
use lib.Dec.{eqb, ltb, lit<}
use lib.Pow.{pow-lt}
use Rattle.bits.specs.Bits.{bit}
use Rattle.bits.specs.Packed.{full_of, plus_upper, plus_lower, mask_of, lowered_word, raised_word}
use Rattle.bits.specs.Sums.{one_if}
use Rattle.bits.proofs.Bools.{all_at, all_at₂, all_at₃}
use Rattle.bits.proofs.Bits.{bit_lt, bit_high, bit_and_lem, bit_xor_lem, bit_shr, bit_cut, bit_shl, shl_one}

-- ---- no bit, and every bit

pub full_fits : (t : Bool) → full_of t < 2 ^ 64
full_fits true = lit< tt
full_fits false = lit< tt

full_test : Bool → ℕ → Bool
full_test t j = eqb (bit (full_of t) j) (one_if t)

pub full_bit : (t : Bool) (j : ℕ) → j < 64 → bit (full_of t) j ≡ one_if t
unfolding full_test
full_bit true j h = eqb-true _ _ (all_at 64 (full_test true) refl j h)
full_bit false j h = bit_high 0 0 j (lit< tt) zero-le

-- ---- the code's numbers

module _ (k : ℕ) (small : k < 6) where
  half_is : (1 * 2 ^ k) % 2 ^ 64 ≡ 2 ^ k
  half_is = shl_one k 64 (omega arith)

  pub half_fits : (1 * 2 ^ k) % 2 ^ 64 < 64
  half_fits = subst (λ (x : ℕ). x < 64) (sym half_is) (pow-lt {j = 6} small)

  module _ (x m : ℕ) (e : m ≡ mask_of k) where
    pub lower_is : bit_xor x (bit_and (x / 2 ^ ((1 * 2 ^ k) % 2 ^ 64)) m) ≡ lowered_word k x
    unfolding lowered_word
    lower_is = ap₂ (λ (h y : ℕ). bit_xor x (bit_and (x / 2 ^ h) y)) half_is e

    pub raise_is : bit_xor x ((bit_and x m * 2 ^ ((1 * 2 ^ k) % 2 ^ 64)) % 2 ^ 64) ≡ raised_word k x
    unfolding raised_word
    raise_is = ap₂ (λ (h y : ℕ). bit_xor x ((bit_and x y * 2 ^ h) % 2 ^ 64)) half_is e

-- ---- a variable below 6 is one of the index in the word

mask_test : ℕ → ℕ → Bool
mask_test k j = eqb (bit (mask_of k) j) (1 - bit j k)

above_test : ℕ → ℕ → Bool
above_test k j = eqb (cond (ltb j (2 ^ k)) 0 (bit (mask_of k) (j - 2 ^ k))) (bit j k)

module _ (k j : ℕ) (hk : k < 6) (hj : j < 64) where
  pub mask_bit : bit (mask_of k) j ≡ 1 - bit j k
  unfolding mask_of mask_test
  mask_bit = eqb-true _ _ (all_at₂ 6 64 mask_test refl k j hk hj)

  mask_above : cond (ltb j (2 ^ k)) 0 (bit (mask_of k) (j - 2 ^ k)) ≡ bit j k
  unfolding mask_of above_test
  mask_above = eqb-true _ _ (all_at₂ 6 64 above_test refl k j hk hj)

  pub lower_bit : (x : ℕ) → bit (lowered_word k x) j ≡ plus_upper k (bit x) j
  unfolding lowered_word plus_upper
  lower_bit x =
      bit_xor_lem x (bit_and (x / 2 ^ 2 ^ k) (mask_of k)) j
      ∙ ap (differ (bit x j)) (bit_and_lem (x / 2 ^ 2 ^ k) (mask_of k) j ∙ ap₂ min (bit_shr x (2 ^ k) j) mask_bit)
      ∙ eqb-true _ _ (all_at₃ 2 2 2 (λ b x y. eqb (differ x (min y (1 - b))) (cond (eqb b 0) (bit_xor x y) x)) refl
      (bit j k) (bit x j) (bit x (j + 2 ^ k)) (bit_lt j k) (bit_lt x j) (bit_lt x (j + 2 ^ k)))

  pub raise_bit : (x : ℕ) → bit (raised_word k x) j ≡ plus_lower k (bit x) j
  unfolding raised_word plus_lower
  raise_bit x =
      let m : ℕ = bit_and x (mask_of k) in
      bit_xor_lem x ((m * 2 ^ 2 ^ k) % 2 ^ 64) j
      ∙ ap (differ (bit x j))
      (bit_cut 64 (m * 2 ^ 2 ^ k) j hj ∙ bit_shl m (2 ^ k) j
      ∙ ap (λ (z : ℕ). cond (ltb j (2 ^ k)) 0 z) (bit_and_lem x (mask_of k) (j - 2 ^ k))
      ∙ inside (ltb j (2 ^ k)) (bit x (j - 2 ^ k)) (bit (mask_of k) (j - 2 ^ k)) ∙ ap (min (bit x (j - 2 ^ k))) mask_above)
      ∙ eqb-true _ _ (all_at₃ 2 2 2 (λ b x y. eqb (differ x (min y b)) (cond (eqb b 1) (bit_xor x y) x)) refl
      (bit j k) (bit x j) (bit x (j - 2 ^ k)) (bit_lt j k) (bit_lt x j) (bit_lt x (j - 2 ^ k)))
    where
      inside : (b : Bool) (y z : ℕ) → cond b 0 (min y z) ≡ min y (cond b 0 z)
      inside true y z = sym (min-zero y)
      inside false y z = refl

-- What the bits of four words show: a vector, after a pass down at a variable the coefficients with that variable turned, after all passes up the positive
-- coefficients; and the counts of a form from the bits of its coefficients.
-- Assumes nothing.
use mathlib.Core.Path.{◌≡◌, refl, sym, ap, ◌∙◌}
use mathlib.Core.List.{List}
use Prim.Native.Nat.{ℕ, zero, suc, ◌+◌, ◌-◌, ◌%◌, ◌^◌, ◌<◌, ◌≤◌}
use native.Mathlib.Nat.{le_refl}
use native.Mathlib.Omega.{arith}
use lib.Bits.{bit_xor}
use lib.ListN.{get_or-eq_default}
use lib.Pow.{pow_mono, pow_pos}
use Rattle.bits.specs.Below.{sum_below}
use Rattle.bits.specs.Packed.{alone, bit_at, word_from, packed, plus_upper, plus_lower, lowered, raised}
use Rattle.bits.specs.declared.packed.Packed.{Packed}
use Rattle.bits.proofs.Bits.{bit_zero, plus_lt}
use Rattle.bits.proofs.Below.{sum_cong, sum_parts, sum_none}
use Rattle.bits.proofs.packed.Passes.{plus_upper_cong, plus_lower_cong, lowered_bit, raised_bit}
use Rattle.bits.proofs.packed.Packing.{packed_bit}
use Rattle.bits.proofs.packed.Alone.{packed_alone}
use Rattle.polarity.specs.Forms.{parity_within, coefficient, form_from}
use Rattle.polarity.specs.Ranks.{counts_of}
use Rattle.polarity.specs.Vectors.{byte_at, Vector}
use Rattle.polarity.specs.Words.{Shows, passed, nonzero, counts_in}
use Rattle.polarity.proofs.Passes.{minus_high, upper_none, lower_none, passes, passes_parity, coefficient_turned}
use Rattle.polarity.proofs.Forms.{form_counts}
use Rattle.polarity.proofs.Theorems.{positive_coefficient}

pub most : (n : ℕ) → n ≤ 8 → 2 ^ n ≤ 256
most n few = pow_mono {j = 8} few

pub shows_vector : (n : ℕ) (l : List ℕ) → Vector n l → (w : Packed) → w ≡ packed l → Shows n (byte_at l) w
shows_vector n l v w e = record {
  low = λ t m. at t (omega (arith, most n v.few));
  high = λ t m h. at t h ∙ get_or-eq_default l 0 {n = t} (omega (arith, v.long));
}
  where
    at : (t : ℕ) → t < 256 → bit_at w t ≡ byte_at l t
    at t h = ap (λ (x : Packed). bit_at x t) e ∙ packed_bit l v.bits t h

-- with at most six variables
pub alone_packed : (n : ℕ) (l : List ℕ) → Vector n l → n ≤ 6 → (x : ℕ) → x ≡ word_from l 0 → alone x ≡ packed l
alone_packed n l v h x e = ap alone e ∙ sym (packed_alone l (omega (arith, v.long, pow_mono {j = 6} h)))

pub shows_cong : (n : ℕ) (f g : ℕ → ℕ) (w : Packed) → ((t : ℕ) → t < 2 ^ n → f t ≡ g t) → Shows n f w → Shows n g w
shows_cong n f g w e S = record { low = λ t m. S.low t m ∙ e t m; high = S.high }

-- ---- one pass

module _ (n : ℕ) (few : n ≤ 8) (k : ℕ) (hk : k < n) where
  module _ (f : ℕ → ℕ) (w : Packed) (S : Shows n f w) where
    shows_lowered : Shows n (plus_upper k f) (lowered k w)
    shows_lowered = record {
      low = λ t m. lowered_bit k w t (omega arith) (omega (arith, most n few))
          ∙ plus_upper_cong k (bit_at w) f t t refl (S.low t m) (λ z. S.low (t + 2 ^ k) (plus_lt n k t hk m z));
      high = λ t m h. lowered_bit k w t (omega arith) h
          ∙ plus_upper_cong k (bit_at w) (λ u. 0) t t refl (S.high t m h) (λ z. S.high (t + 2 ^ k) (omega arith) (plus_lt 8 k t (omega arith) h z)) ∙ upper_none k t;
    }

    shows_raised : Shows n (plus_lower k f) (raised k w)
    shows_raised = record {
      low = λ t m. raised_bit k w t (omega arith) (omega (arith, most n few))
          ∙ plus_lower_cong k (bit_at w) f t t refl (S.low t m) (λ e. S.low (t - 2 ^ k) (omega arith));
      high = λ t m h. raised_bit k w t (omega arith) h
          ∙ plus_lower_cong k (bit_at w) (λ u. 0) t t refl (S.high t m h) (λ e. S.high (t - 2 ^ k) (minus_high t k e n hk m) (omega arith)) ∙ lower_none k t;
    }

  -- the coefficients under q become those with variable k turned in q
  pub shows_turn : (q : ℕ) (f : ℕ → ℕ) (w : Packed) → Shows n (coefficient n q f) w → Shows n (coefficient n (bit_xor q (2 ^ k)) f) (lowered k w)
  shows_turn q f w S =
      shows_cong n (plus_upper k (coefficient n q f)) (coefficient n (bit_xor q (2 ^ k)) f) (lowered k w) (λ t m. sym (coefficient_turned n k q hk f t m))
      (shows_lowered (coefficient n q f) w S)

-- ---- all passes up

module _ (n : ℕ) (few : n ≤ 8) (f : ℕ → ℕ) (w : Packed) (S : Shows n f w) where
  shows_passes : (k : ℕ) → k ≤ n → Shows n (passes k f) (passed raised k w)
  unfolding passes passed
  shows_passes zero h = S
  shows_passes (suc k) h = shows_raised n few k h (passes k f) (passed raised k w) (shows_passes k (omega arith))

  pub shows_parities : ((t : ℕ) → f t < 2) → Shows n (parity_within n f) (passed raised n w)
  shows_parities bits = shows_cong n (passes n f) (parity_within n f) (passed raised n w) (passes_parity n f bits) (shows_passes n (le_refl n))

  pub shows_positive : ((t : ℕ) → f t < 2) → Shows n (coefficient n 0 f) (passed raised n w)
  shows_positive bits =
      shows_cong n (parity_within n f) (coefficient n 0 f) (passed raised n w) (λ s h. sym (positive_coefficient n f s)) (shows_parities bits)

-- ---- the counts of a form

module _ (n p : ℕ) (few : n ≤ 8) (c : ℕ → ℕ) (bits : (s : ℕ) → c s < 2) (w : Packed) (S : Shows n c w) where
  shown_sum : sum_below 256 (bit_at w) ≡ sum_below (2 ^ n) c
  shown_sum =
      let parts : 2 ^ n + (256 - 2 ^ n) ≡ 256 = omega (arith, most n few) in
      let rest : sum_below (256 - 2 ^ n) (λ t. bit_at w (2 ^ n + t)) ≡ 0 =
      sum_none (256 - 2 ^ n) (λ t. bit_at w (2 ^ n + t)) (λ t h. S.high (2 ^ n + t) (omega arith) (omega arith)) in
      ap (λ (m : ℕ). sum_below m (bit_at w)) (sym parts) ∙ sum_parts (2 ^ n) (256 - 2 ^ n) (bit_at w)
      ∙ omega (arith, rest, sum_cong (2 ^ n) (bit_at w) c S.low)

  shown_first : w.a % 2 ≡ c 0
  unfolding bit_at
  shown_first = sym (bit_zero w.a) ∙ S.low 0 (pow_pos n)

  pub shown_counts : counts_in w ≡ counts_of (form_from n p c)
  unfolding counts_in
  shown_counts = (λ i. record { products = shown_sum i; constant = nonzero (shown_first i) }) ∙ sym (form_counts n p c bits)

-- as the code counts
pub counts_are : (w : Packed) (m : ℕ) → m ≡ sum_below 256 (bit_at w) → record { products = m; constant = nonzero (w.a % 2) } ≡ counts_in w
unfolding counts_in
counts_are w m e = λ i. record { products = e i; constant = nonzero (w.a % 2) }

-- Coefficients and back on four words: after the passes down of p's variables the words show the coefficients with those turned, and either transform from it.
-- Assumes nothing.
use mathlib.Core.Path.{◌≡◌, refl, sym, ap, ◌∙◌, subst, subst₂}
use mathlib.Core.Bool.{Bool, true, false, cond}
use mathlib.Core.List.{List}
use Prim.Native.Nat.{ℕ, zero, suc, ◌+◌, ◌*◌, ◌%◌, ◌^◌, ◌<◌, ◌≤◌}
use native.Mathlib.Nat.{le_refl, mod-lt, mod-one, mod-eq_of_lt, zero-mul, one-mul}
use native.Mathlib.Numerals.{add-one, one-add}
use native.Mathlib.Omega.{arith}
use lib.Bits.{bit_xor, xor_self, xor_zero_r}
use lib.Dec.{eqb}
use lib.Pow.{pow_pos, mod-pow-add}
use borrow.Author.Tests.{eq-eqb, ne_eqb}
use Rattle.bits.specs.Bits.{bit}
use Rattle.bits.specs.Below.{list_below}
use Rattle.bits.specs.Packed.{bit_at, packed, lowered, raised}
use Rattle.bits.specs.declared.packed.Packed.{Packed}
use Rattle.bits.proofs.Bits.{bit_lt, bit_high}
use Rattle.bits.proofs.Below.{list_below_cong}
use Rattle.polarity.specs.Forms.{parity_within, coefficient, value_back}
use Rattle.polarity.specs.Vectors.{byte_at, Vector}
use Rattle.polarity.specs.Words.{Shows, passed, turned_at, transformed}
use Rattle.polarity.proofs.Subsets.{mask_assoc}
use Rattle.polarity.proofs.Parities.{parity_lt, parity_twice}
use Rattle.polarity.proofs.Passes.{xor_with}
use Rattle.polarity.proofs.Shown.{shows_vector, shows_cong, shows_turn, shows_parities, shows_positive}
use Rattle.polarity.proofs.Theorems.{coefficients_back, positive_coefficient}

-- ---- all passes down

-- p's variables up to k: those below it, and k where p has it
module _ (p k : ℕ) where
  upto_is : p % 2 ^ suc k ≡ bit p k * 2 ^ k + p % 2 ^ k
  upto_is = ap (λ (x : ℕ). p % 2 ^ x) (sym (one-add k)) ∙ mod-pow-add p 1 k

  upto_same : bit p k ≡ 0 → p % 2 ^ suc k ≡ p % 2 ^ k
  upto_same e = omega (arith, upto_is, ap (λ (x : ℕ). x * 2 ^ k) e, zero-mul (2 ^ k))

  upto_more : bit p k ≡ 1 → p % 2 ^ suc k ≡ bit_xor (p % 2 ^ k) (2 ^ k)
  upto_more e =
      let sum : p % 2 ^ suc k ≡ p % 2 ^ k + 2 ^ k = omega (arith, upto_is, ap (λ (x : ℕ). x * 2 ^ k) e, one-mul (2 ^ k)) in
      sum ∙ sym (xor_with (p % 2 ^ k) k (bit_high k (p % 2 ^ k) k (mod-lt p (pow_pos k)) (le_refl k)))

module _ (n : ℕ) (few : n ≤ 8) (p q : ℕ) (f : ℕ → ℕ) (w : Packed) (S : Shows n (coefficient n q f) w) where
  shows_part : (k : ℕ) → k ≤ n → Shows n (coefficient n (bit_xor q (p % 2 ^ k)) f) (passed (turned_at p) k w)
  unfolding passed turned_at
  shows_part zero h = subst (λ (x : ℕ). Shows n (coefficient n x f) w) (sym (ap (bit_xor q) (mod-one p) ∙ xor_zero_r q)) S
  shows_part (suc k) h = go (bit p k) refl (bit_lt p k) (passed (turned_at p) k w) (shows_part k (omega arith))
    where
      go : (b : ℕ) → bit p k ≡ b → b < 2 → (v : Packed) → Shows n (coefficient n (bit_xor q (p % 2 ^ k)) f) v
          → Shows n (coefficient n (bit_xor q (p % 2 ^ suc k)) f) (cond (eqb b 0) v (lowered k v))
      go zero e l v T = subst (λ (x : ℕ). Shows n (coefficient n (bit_xor q x) f) v) (sym (upto_same p k e)) T
      go (suc zero) e l v T =
          subst (λ (x : ℕ). Shows n (coefficient n x f) (lowered k v)) (sym (ap (bit_xor q) (upto_more p k e) ∙ mask_assoc q (p % 2 ^ k) (2 ^ k)))
          (shows_turn n few k h (bit_xor q (p % 2 ^ k)) f v T)
      go (suc (suc b)) e l v T = absurd (omega arith)

  shows_turned : p < 2 ^ n → Shows n (coefficient n (bit_xor q p) f) (passed (turned_at p) n w)
  shows_turned h = subst (λ (x : ℕ). Shows n (coefficient n (bit_xor q x) f) (passed (turned_at p) n w)) (mod-eq_of_lt h) (shows_part n (le_refl n))

-- ---- coefficients and back

module _ (n p : ℕ) (l : List ℕ) (v : Vector n l) (h : p < 2 ^ n) (w : Packed) (e : w ≡ packed l) where
  shows_coefficients : Shows n (coefficient n p (byte_at l)) (passed (turned_at p) n (passed raised n w))
  shows_coefficients =
      shows_turned n v.few p 0 (byte_at l) (passed raised n w) (shows_positive n v.few (byte_at l) w (shows_vector n l v w e) v.bits) h

  -- they are the coefficients under p of the vector that they stand for; without p's variables they are its positive ones
  shows_back : Shows n (value_back n p (byte_at l)) (passed raised n (passed (turned_at p) n w))
  shows_back =
      let f : ℕ → ℕ = value_back n p (byte_at l) in
      let under : Shows n (coefficient n p f) w =
      shows_cong n (byte_at l) (coefficient n p f) w (λ s m. sym (coefficients_back n p h (byte_at l) s m ∙ mod-eq_of_lt (v.bits s))) (shows_vector n l v w e) in
      let positive : Shows n (parity_within n f) (passed (turned_at p) n w) =
      shows_cong n (coefficient n (bit_xor p p) f) (parity_within n f) (passed (turned_at p) n w)
      (λ s m. ap (λ (q : ℕ). coefficient n q f s) (xor_self p) ∙ positive_coefficient n f s) (shows_turned n v.few p p f w under h) in
      shows_cong n (parity_within n (parity_within n f)) f (passed raised n (passed (turned_at p) n w))
      (λ a m. parity_twice n f a m ∙ mod-eq_of_lt (parity_lt n (byte_at l) (bit_xor a p)))
      (shows_parities n v.few (parity_within n f) (passed (turned_at p) n w) positive (parity_lt n f))

  -- either way, as the code goes
  module _ (b : Bool) (v₁ v₂ : Packed) where
    pub transformed_there : b ≡ false → v₁ ≡ passed raised n w → v₂ ≡ passed (turned_at p) n v₁ → Shows n (transformed b n p (byte_at l)) v₂
    transformed_there eb e₁ e₂ =
        subst₂ (λ (t : Bool) (x : Packed). Shows n (transformed t n p (byte_at l)) x) (sym eb) (sym (e₂ ∙ ap (passed (turned_at p) n) e₁)) shows_coefficients

    pub transformed_back : b ≡ true → v₁ ≡ passed (turned_at p) n w → v₂ ≡ passed raised n v₁ → Shows n (transformed b n p (byte_at l)) v₂
    transformed_back eb e₁ e₂ =
        subst₂ (λ (t : Bool) (x : Packed). Shows n (transformed t n p (byte_at l)) x) (sym eb) (sym (e₂ ∙ ap (passed raised n) e₁)) shows_back

-- the bits, a byte each
pub shows_list : (n : ℕ) (f : ℕ → ℕ) (w : Packed) → Shows n f w → (m : ℕ) → m ≡ 2 ^ n → list_below m (bit_at w) ≡ list_below (2 ^ n) f
shows_list n f w S m e = ap (λ (k : ℕ). list_below k (bit_at w)) e ∙ list_below_cong (2 ^ n) (bit_at w) f S.low

-- ---- one pass as the code goes

module _ (p k : ℕ) (w : Packed) where
  pub turned_not : bit p k ≡ 0 → w ≡ turned_at p k w
  unfolding turned_at
  turned_not e = sym (ap (λ (b : Bool). cond b w (lowered k w)) (eq-eqb (bit p k) 0 e))

  pub turned_is : (bit p k ≡ 0 → ⊥) → (v : Packed) → v ≡ lowered k w → v ≡ turned_at p k w
  unfolding turned_at
  turned_is d v e = e ∙ sym (ap (λ (b : Bool). cond b w (lowered k w)) (ne_eqb (bit p k) 0 d))

-- a pass more
pub passed_more : (pass : ℕ → Packed → Packed) (w₀ w w' : Packed) (k : ℕ) → w ≡ passed pass k w₀ → w' ≡ pass k w → w' ≡ passed pass (k + 1) w₀
unfolding passed
passed_more pass w₀ w w' k e is = is ∙ ap (pass k) e ∙ ap (λ (j : ℕ). passed pass j w₀) (sym (add-one k))

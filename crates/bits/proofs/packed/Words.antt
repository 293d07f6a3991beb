-- The bits of four words: where they stand, of both and of a sum, and how many are set.
-- Assumes nothing.
use mathlib.Core.Path.{◌≡◌, refl, sym, ap, ap₂, ◌∙◌}
use mathlib.Core.Bool.{Bool}
use Prim.Native.Nat.{ℕ, zero, suc, ◌+◌, ◌*◌, ◌/◌, ◌%◌, ◌^◌, ◌<◌, ◌≤◌, min}
use native.Mathlib.Nat.{zero-add}
use native.Mathlib.Numerals.{one-add}
use native.Mathlib.Omega.{arith}
use lib.Arith.{lt-one}
use lib.Bits.{bit_and, bit_xor}
use lib.Count.{ones, ones_step, ones-le}
use Rattle.bits.specs.Bits.{bit}
use Rattle.bits.specs.Below.{sum_below}
use Rattle.bits.specs.Packed.{word_at, bit_at, both, summed, full_of}
use Rattle.bits.specs.Sums.{one_if}
use Rattle.bits.specs.declared.packed.Packed.{Packed}
use Rattle.bits.proofs.Bits.{bit_lt, bit_zero, bit_suc, half_lt, bit_and_lem, bit_xor_bits}
use Rattle.bits.proofs.Below.{sum_cong, sum_parts, sum_none}
use Rattle.bits.proofs.word.Masks.{full_bit}

-- two that agree in each word
pub each_agrees : (w v : Packed) → w.a ≡ v.a → w.b ≡ v.b → w.c ≡ v.c → w.d ≡ v.d → w ≡ v
each_agrees w v ea eb ec ed = λ i. record { a = ea i; b = eb i; c = ec i; d = ed i }

pub bit_at_lt : (w : Packed) (t : ℕ) → bit_at w t < 2
unfolding bit_at
bit_at_lt w t = bit_lt (word_at w (t / 64)) (t % 64)

-- bit j of word i
pub word_bit : (w : Packed) (i j : ℕ) → j < 64 → bit_at w (i * 64 + j) ≡ bit (word_at w i) j
unfolding bit_at
word_bit w i j h =
    let e : (i * 64 + j) / 64 ≡ i = omega arith in
    let f : (i * 64 + j) % 64 ≡ j = omega arith in
    ap₂ (λ (x y : ℕ). bit (word_at w x) y) e f

-- ---- no bit, and every bit

same_words : (x i : ℕ) → word_at (record { a = x; b = x; c = x; d = x }) i ≡ x
same_words x zero = refl
same_words x (suc zero) = refl
same_words x (suc (suc zero)) = refl
same_words x (suc (suc (suc i))) = refl

-- four words of which each is full, or each empty
pub full_bits : (t : Bool) (a : ℕ) → bit_at (record { a = full_of t; b = full_of t; c = full_of t; d = full_of t }) a ≡ one_if t
unfolding bit_at
full_bits t a = ap (λ (x : ℕ). bit x (a % 64)) (same_words (full_of t) (a / 64)) ∙ full_bit t (a % 64) (omega arith)

-- ---- both, and the sum

module _ (w v : Packed) where
  both_word : (i : ℕ) → word_at (both w v) i ≡ bit_and (word_at w i) (word_at v i)
  unfolding both
  both_word zero = refl
  both_word (suc zero) = refl
  both_word (suc (suc zero)) = refl
  both_word (suc (suc (suc i))) = refl

  pub both_bit : (t : ℕ) → bit_at (both w v) t ≡ min (bit_at w t) (bit_at v t)
  unfolding bit_at
  both_bit t = ap (λ (x : ℕ). bit x (t % 64)) (both_word (t / 64)) ∙ bit_and_lem (word_at w (t / 64)) (word_at v (t / 64)) (t % 64)

  summed_word : (i : ℕ) → word_at (summed w v) i ≡ bit_xor (word_at w i) (word_at v i)
  unfolding summed
  summed_word zero = refl
  summed_word (suc zero) = refl
  summed_word (suc (suc zero)) = refl
  summed_word (suc (suc (suc i))) = refl

  pub summed_bit : (t : ℕ) → bit_at (summed w v) t ≡ bit_xor (bit_at w t) (bit_at v t)
  unfolding bit_at
  summed_bit t = ap (λ (x : ℕ). bit x (t % 64)) (summed_word (t / 64)) ∙ bit_xor_bits (word_at w (t / 64)) (word_at v (t / 64)) (t % 64)

-- ---- how many bits are set

ones_sum : (n x : ℕ) → x < 2 ^ n → ones x ≡ sum_below n (bit x)
unfolding sum_below ones
ones_sum zero x h = ap ones (lt-one h)
ones_sum (suc n) x h =
    ones_step x
    ∙ ap₂ (λ (y z : ℕ). y + z) (sym (bit_zero x)) (ones_sum n (x / 2) (half_lt n x h) ∙ sum_cong n (bit (x / 2)) (λ t. bit x (suc t)) (λ t l. sym (bit_suc x t)))
    ∙ sym (ap (λ (m : ℕ). sum_below m (bit x)) (sym (one-add n)) ∙ sum_parts 1 n (bit x)
    ∙ ap₂ (λ (y z : ℕ). y + z) (zero-add (bit x 0)) (sum_cong n (λ t. bit x (1 + t)) (λ t. bit x (suc t)) (λ t l. ap (bit x) (one-add t))))

pub word_ones : (x : ℕ) → x < 2 ^ 64 → ones x ≤ 64
word_ones x h = ones-le 64 x h

module _ (w : Packed) where
  -- the set bits before word i, and those of word i
  more_ones : (i : ℕ) → word_at w i < 2 ^ 64 → sum_below (i * 64 + 64) (bit_at w) ≡ sum_below (i * 64) (bit_at w) + ones (word_at w i)
  more_ones i h =
      sum_parts (i * 64) 64 (bit_at w)
      ∙ ap (λ (x : ℕ). sum_below (i * 64) (bit_at w) + x)
      (sum_cong 64 (λ t. bit_at w (i * 64 + t)) (bit (word_at w i)) (word_bit w i) ∙ sym (ones_sum 64 (word_at w i) h))

  pub ones_all : w.a < 2 ^ 64 → w.b < 2 ^ 64 → w.c < 2 ^ 64 → w.d < 2 ^ 64 → ones w.a + ones w.b + ones w.c + ones w.d ≡ sum_below 256 (bit_at w)
  ones_all ha hb hc hd =
      let none : sum_below 0 (bit_at w) ≡ 0 = sum_none 0 (bit_at w) (λ t l. absurd (omega arith)) in
      let a : sum_below 64 (bit_at w) ≡ sum_below 0 (bit_at w) + ones w.a = more_ones 0 ha in
      let b : sum_below 128 (bit_at w) ≡ sum_below 64 (bit_at w) + ones w.b = more_ones 1 hb in
      let c : sum_below 192 (bit_at w) ≡ sum_below 128 (bit_at w) + ones w.c = more_ones 2 hc in
      let d : sum_below 256 (bit_at w) ≡ sum_below 192 (bit_at w) + ones w.d = more_ones 3 hd in
      omega arith

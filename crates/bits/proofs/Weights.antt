-- Weighted sums: a number by its digits of q bits each, and by its bits.
-- Assumes nothing.
use mathlib.Core.Path.{◌≡◌, sym, ap, ◌∙◌, subst}
use mathlib.Core.Logic.{⊎_elim}
use Prim.Native.Nat.{ℕ, zero, suc, ◌*◌, ◌^◌, ◌≤◌, ◌<◌}
use native.Mathlib.Nat.{one-mul, zero-mul, mul-suc, mul-le-mul_right, le_refl}
use native.Mathlib.Omega.{arith}
use lib.Pow.{pow_pos, pow-add}
use Rattle.bits.specs.Bits.{bit, with_bit}
use Rattle.bits.specs.Below.{sum_below}
use Rattle.bits.proofs.Bools.{below_or}
use Rattle.bits.proofs.Bits.{bit_high, with_same, with_other}
use Rattle.bits.proofs.Below.{sum_cong}

module _ (q : ℕ) (d : ℕ → ℕ) (lt : (i : ℕ) → d i < 2 ^ q) where
  pub weights_lt : (m : ℕ) → sum_below m (λ i. d i * 2 ^ (q * i)) < 2 ^ (q * m)
  unfolding sum_below
  weights_lt zero = pow_pos (q * 0)
  weights_lt (suc m) =
      let p : ℕ = 2 ^ (q * m) in
      let e : 2 ^ (q * suc m) ≡ p * 2 ^ q = ap (λ (k : ℕ). 2 ^ k) (mul-suc q m) ∙ pow-add 2 (q * m) q in
      let l : suc (d m) * p ≤ 2 ^ q * p = mul-le-mul_right p (lt m) in
      omega (arith, weights_lt m)

-- the bits of a sum of weighted bits
module _ (d : ℕ → ℕ) (lt : (i : ℕ) → d i < 2) where
  abbrev pub weighted : ℕ → ℕ
  weighted m = sum_below m (λ i. d i * 2 ^ i)

  pub weighted_lt : (m : ℕ) → weighted m < 2 ^ m
  weighted_lt m =
      subst (λ (x : ℕ). x < 2 ^ m) (sum_cong m (λ i. d i * 2 ^ (1 * i)) (λ i. d i * 2 ^ i) (λ i b. ap (λ (k : ℕ). d i * 2 ^ k) (one-mul i)))
      (subst (λ (k : ℕ). sum_below m (λ i. d i * 2 ^ (1 * i)) < 2 ^ k) (one-mul m) (weights_lt 1 d lt m))

  weighted_with : (m : ℕ) → weighted (suc m) ≡ with_bit (weighted m) m (d m)
  unfolding sum_below with_bit
  weighted_with m = rw (bit_high m (weighted m) m (weighted_lt m) (le_refl m)) (omega (arith, zero-mul (2 ^ m)))

  pub weighted_bit : (m i : ℕ) → i < m → bit (weighted m) i ≡ d i
  weighted_bit zero i h = absurd (omega arith)
  weighted_bit (suc m) i h =
      ap (λ (x : ℕ). bit x i) (weighted_with m)
      ∙ ⊎_elim (λ b. with_other (weighted m) m (d m) i (lt m) (λ e. omega arith) ∙ weighted_bit m i b)
      (λ b. let e : i ≡ m = omega arith in ap (bit (with_bit (weighted m) m (d m))) e ∙ with_same (weighted m) m (d m) (lt m) ∙ ap d (sym e)) (below_or i m)

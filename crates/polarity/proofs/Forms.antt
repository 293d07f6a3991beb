-- The list of a form: its products one by one, how many they are, and its cubes.
-- Assumes nothing.
use mathlib.Core.Path.{◌≡◌, refl, sym, ap, ◌∙◌, subst}
use mathlib.Core.Bool.{Bool, true, false, cond, beq}
use mathlib.Core.List.{◌∷◌, map}
use Prim.Native.Nat.{ℕ, zero, suc, ◌+◌, ◌-◌, ◌%◌, ◌^◌, ◌<◌, ◌≤◌, min}
use native.Mathlib.Nat.{zero-add, le_refl, le_of_suc-le-suc, min-le_left, lt_of_le_of_lt}
use native.Mathlib.Omega.{arith}
use lib.Bits.{bit_and, bit_xor, differ, and_le_l}
use lib.Dec.{eqb, ltb}
use lib.ListN.{length, length-map}
use lib.Pow.{suc_ones}
use borrow.Author.Tests.{eqb-true, ne_eqb}
use Rattle.bits.specs.Bits.{bit, within}
use Rattle.bits.specs.Below.{those, sum_below}
use Rattle.bits.specs.Sums.{tally, one_if, All}
use Rattle.bits.proofs.Bools.{one_lt, all_at₂, all_at₃, all_ext, beq_eq}
use Rattle.bits.proofs.Bits.{bit_lt, bit_and_lem, bit_xor_lem, bit_high}
use Rattle.bits.proofs.Below.{eqb_bits, those_same, sum_cong, sum_none, sum_most, tally_step, tally_those, those_count}
use Rattle.cube.specs.Cubes.{bare, code_of, code, met, holds, Good}
use Rattle.cube.specs.Lists.{trues, list_value}
use Rattle.polarity.specs.Forms.{parity_within, value_back, product, form_from}
use Rattle.polarity.specs.Ranks.{counts_of}
use Rattle.polarity.specs.Words.{nonzero}

-- ---- those of the numbers that pass a test

-- what holds of each that passes
pub all_those : {A : Type 0} (P : A → Type 0) (h : ℕ → A) (f : ℕ → Bool) (m k : ℕ) → ((s : ℕ) → k ≤ s → s < k + m → P (h s)) → All P (map h (those f m k))
unfolding those
all_those P h f zero k a = tt
all_those P h f (suc m) k a = go (f k) (all_those P h f m (suc k) (λ s l u. a s (omega arith) (omega arith)))
  where
    go : (b : Bool) → All P (map h (those f m (suc k))) → All P (map h (cond b (k ∷ those f m (suc k)) (those f m (suc k))))
    go true r = (a k (le_refl k) (omega arith), r)
    go false r = r

-- ---- how many products

-- no product but that of the empty set is without literals
module _ (f : ℕ → Bool) (p m : ℕ) where
  none_later : (k : ℕ) → tally bare (map (product p) (those f m (suc k))) ≡ 0
  none_later k =
      tally_those bare (product p) f m (suc k)
      ∙ sum_none m _ (λ t b. at (f (suc k + t)) (suc k + t) (λ e. omega arith))
    where
      at : (b : Bool) (s : ℕ) → (s ≡ 0 → ⊥) → cond b (one_if (eqb s 0)) 0 ≡ 0
      at true s d = ap one_if (ne_eqb s 0 d)
      at false s d = refl

  constant_is : ltb 0 (tally bare (map (product p) (those f (suc m) 0))) ≡ f 0
  unfolding those
  constant_is = ap (λ (x : ℕ). ltb 0 x) (tally_step bare (product p) (f 0) 0 (those f m 1)) ∙ at (f 0) (none_later 0)
    where
      at : (b : Bool) → tally bare (map (product p) (those f m 1)) ≡ 0
          → ltb 0 (cond b 1 0 + tally bare (map (product p) (those f m 1))) ≡ b
      at true e = rw e
      at false e = rw e

-- the counts of a form, from its coefficients
pub form_length : (n p : ℕ) (c : ℕ → ℕ) → length (form_from n p c) ≡ sum_below (2 ^ n) (λ s. one_if (nonzero (c s)))
unfolding form_from
form_length n p c =
    length-map (those (λ s. nonzero (c s)) (2 ^ n) 0) (product p) ∙ those_count (λ s. nonzero (c s)) (2 ^ n) 0
    ∙ sum_cong (2 ^ n) _ _ (λ t b. ap (λ (s : ℕ). one_if (nonzero (c s))) (zero-add t))

pub form_most : (n p : ℕ) (c : ℕ → ℕ) → length (form_from n p c) ≤ 2 ^ n
form_most n p c = omega (arith, form_length n p c, sum_most (2 ^ n) 1 (λ s. one_if (nonzero (c s))) (λ s h. le_of_suc-le-suc (one_lt (nonzero (c s)))))

module _ (n p : ℕ) (c : ℕ → ℕ) (bits : (s : ℕ) → c s < 2) where
  form_products : length (form_from n p c) ≡ sum_below (2 ^ n) c
  form_products = form_length n p c ∙ sum_cong (2 ^ n) (λ s. one_if (nonzero (c s))) c (λ t b. one (c t) (bits t))
    where
      one : (x : ℕ) → x < 2 → one_if (nonzero x) ≡ x
      one zero h = refl
      one (suc zero) h = refl
      one (suc (suc x)) h = absurd (omega arith)

  form_constant : ltb 0 (tally bare (map (product p) (those (λ s. nonzero (c s)) (2 ^ n) 0))) ≡ nonzero (c 0)
  form_constant =
      ap (λ (m : ℕ). ltb 0 (tally bare (map (product p) (those (λ s. nonzero (c s)) m 0)))) (sym (suc_ones n))
      ∙ constant_is (λ s. nonzero (c s)) p (2 ^ n - 1)

  pub form_counts : counts_of (form_from n p c) ≡ record { products = sum_below (2 ^ n) c; constant = nonzero (c 0) }
  unfolding counts_of form_from
  form_counts = λ i. record { products = form_products i; constant = form_constant i }

-- ---- the product of a set

-- at one variable, computed over all bits
code_test : ℕ → ℕ → Bool
code_test s p = eqb (code_of s (min s (differ s p))) (code_of s (1 - p))

met_test : ℕ → ℕ → ℕ → Bool
met_test s p a = beq (met (code_of s (min s (differ s p))) a) (eqb (min s (differ a p)) s)

module _ (p s : ℕ) where
  value_bit_lem : (k : ℕ) → bit (bit_and s (bit_xor s p)) k ≡ min (bit s k) (differ (bit s k) (bit p k))
  value_bit_lem k = bit_and_lem s (bit_xor s p) k ∙ ap (min (bit s k)) (bit_xor_lem s p k)

  -- absent where s has not the variable, else plain where p has it not, and complemented where p has it
  pub product_code : (k : ℕ) → code (product p s) k ≡ code_of (bit s k) (1 - bit p k)
  unfolding code code_test
  product_code k =
      ap (code_of (bit s k)) (value_bit_lem k)
      ∙ eqb-true _ _ (all_at₂ 2 2 code_test refl (bit s k) (bit p k) (bit_lt s k) (bit_lt p k))

  pub product_good : (n : ℕ) → s < 2 ^ n → Good n (product p s)
  product_good n h = record {
    inside = λ k. subst (λ (x : ℕ). x ≤ bit s k) (sym (value_bit_lem k)) (min-le_left (bit s k) (differ (bit s k) (bit p k)));
    below = λ k l. bit_high n s k h l;
  }

  -- true at a just where s is within a EXOR p
  pub product_holds : (n a : ℕ) → s < 2 ^ n → holds n (product p s) a ≡ within s (bit_xor a p)
  unfolding holds code met_test
  product_holds n a h =
      all_ext n _ _ (λ k l.
      ap (λ (x : ℕ). met (code_of (bit s k) x) (bit a k)) (value_bit_lem k)
      ∙ beq_eq _ _ (all_at₃ 2 2 2 met_test refl (bit s k) (bit p k) (bit a k) (bit_lt s k) (bit_lt p k) (bit_lt a k))
      ∙ ap (λ (x : ℕ). eqb x (bit s k)) (sym (bit_and_lem s (bit_xor a p) k ∙ ap (min (bit s k)) (bit_xor_lem a p k))))
      ∙ eqb_bits n (bit_and s (bit_xor a p)) s (lt_of_le_of_lt (and_le_l s (bit_xor a p)) h) h

-- ---- the value of a form

module _ (n p : ℕ) (c : ℕ → ℕ) (bits : (s : ℕ) → c s < 2) (a : ℕ) where
  one_product : (s : ℕ) → s < 2 ^ n → cond (nonzero (c s)) (one_if (holds n (product p s) a)) 0 ≡ cond (within s (bit_xor a p)) (c s) 0
  one_product s h = ap (λ (b : Bool). cond (nonzero (c s)) (one_if b) 0) (product_holds p s n a h) ∙ at (within s (bit_xor a p)) (c s) (bits s)
    where
      at : (b : Bool) (x : ℕ) → x < 2 → cond (nonzero x) (one_if b) 0 ≡ cond b x 0
      at true zero l = refl
      at true (suc zero) l = refl
      at true (suc (suc x)) l = absurd (omega arith)
      at false zero l = refl
      at false (suc zero) l = refl
      at false (suc (suc x)) l = absurd (omega arith)

  -- it is the value that the coefficients give back
  pub form_value : list_value n (form_from n p c) a ≡ value_back n p c a
  unfolding list_value trues form_from parity_within
  form_value =
      ap (λ (x : ℕ). x % 2)
      (tally_those (λ d. holds n d a) (product p) (λ s. nonzero (c s)) (2 ^ n) 0
      ∙ sum_cong (2 ^ n) _ (λ s. cond (within s (bit_xor a p)) (c s) 0)
      (λ s h. ap (λ (t : ℕ). cond (nonzero (c t)) (one_if (holds n (product p t) a)) 0) (zero-add s) ∙ one_product s h))

pub form_good : (n p : ℕ) (c : ℕ → ℕ) → All (Good n) (form_from n p c)
unfolding form_from
form_good n p c = all_those (Good n) (product p) (λ s. nonzero (c s)) (2 ^ n) 0 (λ s l h. product_good p s n (omega arith))

-- forms with the same coefficients are the same
pub form_cong : (n p : ℕ) (c d : ℕ → ℕ) → ((s : ℕ) → s < 2 ^ n → c s ≡ d s) → form_from n p c ≡ form_from n p d
unfolding form_from
form_cong n p c d h =
    ap (map (product p)) (those_same (λ s. nonzero (c s)) (λ s. nonzero (d s)) (2 ^ n) 0 (λ s g l. ap nonzero (h s (omega arith))))

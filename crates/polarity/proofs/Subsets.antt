-- Sets as numbers: `within` at the top variable, and EXOR.
-- Assumes nothing.
use mathlib.Core.Path.{◌≡◌, refl, sym, ap, ap₂, ◌∙◌}
use mathlib.Core.Bool.{Bool, true, false}
use Prim.Native.Nat.{ℕ, ◌+◌, ◌*◌, ◌%◌, ◌^◌, ◌<◌}
use native.Mathlib.Nat.{zero-add, zero-mul, one-mul}
use native.Mathlib.Omega.{arith}
use lib.Dec.{eqb}
use lib.Bits.{bit_and, bit_xor, differ, and_block, and_le_r, xor_comm, xor_self, xor_zero_r}
use borrow.Author.Tests.{eqb-true, eqb-false, eq-eqb, ne_eqb}
use Rattle.bits.specs.Bits.{bit, within}
use Rattle.bits.proofs.Bools.{all_at₂, all_at₃}
use Rattle.bits.proofs.Bits.{bit_lt, bit_ext, bit_xor_lem}

-- ---- within, at the top variable

eqb_add : (a x y : ℕ) → eqb (a + x) (a + y) ≡ eqb x y
eqb_add a x y = go (eqb x y) refl
  where
    go : (b : Bool) → eqb x y ≡ b → eqb (a + x) (a + y) ≡ b
    go true e = eq-eqb (a + x) (a + y) (ap (λ (k : ℕ). a + k) (eqb-true x y e))
    go false e = ne_eqb (a + x) (a + y) (λ q. eqb-false x y e (omega arith))

low_form : (k t : ℕ) → t ≡ 0 * 2 ^ k + t
low_form k t = sym (ap (λ (x : ℕ). x + t) (zero-mul (2 ^ k)) ∙ zero-add t)

top_form : (k t : ℕ) → 2 ^ k + t ≡ 1 * 2 ^ k + t
top_form k t = sym (ap (λ (x : ℕ). x + t) (one-mul (2 ^ k)))

module _ (k t s : ℕ) where
  pub within_low : t < 2 ^ k → s < 2 ^ k → within t (2 ^ k + s) ≡ within t s
  within_low ht hs =
      ap (λ (x : ℕ). eqb x t) (ap₂ bit_and (low_form k t) (top_form k s) ∙ and_block k 0 1 t s ht hs ∙ sym (low_form k (bit_and t s)))

  pub within_top : t < 2 ^ k → s < 2 ^ k → within (2 ^ k + t) (2 ^ k + s) ≡ within t s
  within_top ht hs =
      ap (λ (x : ℕ). eqb x (2 ^ k + t)) (ap₂ bit_and (top_form k t) (top_form k s) ∙ and_block k 1 1 t s ht hs ∙ sym (top_form k (bit_and t s)))
      ∙ eqb_add (2 ^ k) (bit_and t s) t

  pub within_none : s < 2 ^ k → within (2 ^ k + t) s ≡ false
  within_none hs = ne_eqb (bit_and (2 ^ k + t) s) (2 ^ k + t) (λ e. omega (arith, and_le_r (2 ^ k + t) s))

-- ---- EXOR

pub mask_assoc : (t a b : ℕ) → bit_xor t (bit_xor a b) ≡ bit_xor (bit_xor t a) b
mask_assoc t a b = bit_ext (bit_xor t (bit_xor a b)) (bit_xor (bit_xor t a) b) (λ j.
    bit_xor_lem t (bit_xor a b) j ∙ ap (differ (bit t j)) (bit_xor_lem a b j)
    ∙ eqb-true _ _ (all_at₃ 2 2 2 (λ x y z. eqb (differ x (differ y z)) (differ (differ x y) z)) refl (bit t j) (bit a j) (bit b j) (bit_lt t j) (bit_lt a j) (bit_lt b j))
    ∙ sym (bit_xor_lem (bit_xor t a) b j ∙ ap (λ (x : ℕ). differ x (bit b j)) (bit_xor_lem t a j)))

pub mask_swap : (t a b : ℕ) → bit_xor (bit_xor t a) b ≡ bit_xor (bit_xor t b) a
mask_swap t a b = sym (mask_assoc t a b) ∙ ap (bit_xor t) (xor_comm a b) ∙ mask_assoc t b a

-- with p, twice
pub xor_twice : (p a : ℕ) → bit_xor (bit_xor a p) p ≡ a
xor_twice p a = sym (mask_assoc a p p) ∙ ap (bit_xor a) (xor_self p) ∙ xor_zero_r a

-- of two bits it is the parity of their sum
pub xor_parity : (x y : ℕ) → x < 2 → y < 2 → bit_xor x y ≡ (x + y) % 2
xor_parity x y hx hy = eqb-true _ _ (all_at₂ 2 2 (λ x y. eqb (bit_xor x y) ((x + y) % 2)) refl x y hx hy)

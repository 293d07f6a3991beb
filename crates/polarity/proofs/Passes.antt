-- The pass of one variable, over any function of the sets. Passes up over all variables make the parities; a pass down turns the coefficients
-- under p into those with that variable turned in p.
-- Assumes nothing.
use mathlib.Core.Path.{◌≡◌, refl, sym, ap, ap₂, ◌∙◌, subst}
use mathlib.Core.Logic.{⊎_elim}
use mathlib.Core.Bool.{Bool, true, false, cond}
use Prim.Native.Nat.{ℕ, zero, suc, ◌+◌, ◌-◌, ◌*◌, ◌%◌, ◌^◌, ◌<◌, ◌≤◌}
use native.Mathlib.Nat.{le_refl, zero-mul, one-mul, mod-eq_of_lt}
use native.Mathlib.Omega.{arith}
use lib.Bits.{bit_xor, differ}
use lib.Dec.{eqb, lit<}
use borrow.Author.Tests.{eqb-true, eq-eqb, ne_eqb}
use Rattle.bits.specs.Bits.{bit, with_bit, within}
use Rattle.bits.specs.Packed.{plus_upper, plus_lower}
use Rattle.bits.proofs.Bools.{below_or, all_at₂}
use Rattle.bits.proofs.Bits.{bit_lt, bit_high, bit_xor_lem, within_bit, weight_le, with_same, with_other, is_with, plus_with, plus_lt, pow_bit, pow_bit_other, differ_zero}
use Rattle.polarity.specs.Forms.{parity_within, coefficient}
use Rattle.polarity.proofs.Subsets.{mask_assoc, mask_swap, xor_twice, xor_parity}
use Rattle.polarity.proofs.Parities.{pow_double, parity_zero, parity_low, parity_top, parity_cong, parity_inside, parity_plus, parity_lt}

-- ---- a set with variable k, and without it

pub xor_with : (t k : ℕ) → bit t k ≡ 0 → bit_xor t (2 ^ k) ≡ t + 2 ^ k
xor_with t k e =
    is_with t k 1 (bit_xor t (2 ^ k)) (lit< tt) (bit_xor_lem t (2 ^ k) k ∙ ap₂ differ e (pow_bit k))
    (λ j d. bit_xor_lem t (2 ^ k) j ∙ ap (differ (bit t j)) (pow_bit_other k j d) ∙ differ_zero (bit t j))
    ∙ sym (plus_with t k e)

with_xor : (t k : ℕ) → bit t k ≡ 0 → bit_xor (t + 2 ^ k) (2 ^ k) ≡ t
with_xor t k e = ap (λ (x : ℕ). bit_xor x (2 ^ k)) (sym (xor_with t k e)) ∙ xor_twice (2 ^ k) t

module _ (t k : ℕ) (e : bit t k ≡ 1) where
  pub minus_with : t - 2 ^ k ≡ with_bit t k 0
  unfolding with_bit
  minus_with = rw e (omega (arith, one-mul (2 ^ k), zero-mul (2 ^ k)))

  pub minus_bit : bit (t - 2 ^ k) k ≡ 0
  minus_bit = ap (λ (x : ℕ). bit x k) minus_with ∙ with_same t k 0 (lit< tt)

  pub minus_plus : t - 2 ^ k + 2 ^ k ≡ t
  minus_plus = omega (arith, ap (λ (y : ℕ). y * 2 ^ k) e, weight_le t k, one-mul (2 ^ k))

  pub minus_high : (n : ℕ) → k < n → 2 ^ n ≤ t → 2 ^ n ≤ t - 2 ^ k
  minus_high n hk h =
      ⊎_elim (λ l. absurd (omega (arith, minus_plus, plus_lt n k (t - 2 ^ k) hk l minus_bit))) (λ l. l) (below_or (t - 2 ^ k) (2 ^ n))

-- the top variable of n + 1
module _ (n t : ℕ) (h : t < 2 ^ n) where
  top_none : bit t n ≡ 0
  top_none = bit_high n t n h (le_refl n)

  top_with : 2 ^ n + t ≡ with_bit t n 1
  top_with = let at : 2 ^ n + t ≡ t + 2 ^ n = omega arith in at ∙ plus_with t n top_none

  top_has : bit (2 ^ n + t) n ≡ 1
  top_has = ap (λ (x : ℕ). bit x n) top_with ∙ with_same t n 1 (lit< tt)

  -- a variable below it
  top_below : (k : ℕ) → k < n → bit (2 ^ n + t) k ≡ bit t k
  top_below k l = ap (λ (x : ℕ). bit x k) top_with ∙ with_other t n 1 k (lit< tt) (λ q. omega arith)

-- ---- a pass at a set

module _ (k : ℕ) (f : ℕ → ℕ) (t : ℕ) where
  pub upper_with : bit t k ≡ 1 → plus_upper k f t ≡ f t
  unfolding plus_upper
  upper_with e = ap (λ (b : Bool). cond b (bit_xor (f t) (f (t + 2 ^ k))) (f t)) (ne_eqb (bit t k) 0 (λ q. omega arith))

  pub upper_without : bit t k ≡ 0 → plus_upper k f t ≡ bit_xor (f t) (f (t + 2 ^ k))
  unfolding plus_upper
  upper_without e = ap (λ (b : Bool). cond b (bit_xor (f t) (f (t + 2 ^ k))) (f t)) (eq-eqb (bit t k) 0 e)

  lower_with : bit t k ≡ 1 → plus_lower k f t ≡ bit_xor (f t) (f (t - 2 ^ k))
  unfolding plus_lower
  lower_with e = ap (λ (b : Bool). cond b (bit_xor (f t) (f (t - 2 ^ k))) (f t)) (eq-eqb (bit t k) 1 e)

  lower_without : bit t k ≡ 0 → plus_lower k f t ≡ f t
  unfolding plus_lower
  lower_without e = ap (λ (b : Bool). cond b (bit_xor (f t) (f (t - 2 ^ k))) (f t)) (ne_eqb (bit t k) 1 (λ q. omega arith))

-- where all is 0 it stays 0
none_either : (b : Bool) → cond b (bit_xor 0 0) 0 ≡ 0
none_either true = refl
none_either false = refl

pub upper_none : (k t : ℕ) → plus_upper k (λ u. 0) t ≡ 0
unfolding plus_upper
upper_none k t = none_either (eqb (bit t k) 0)

pub lower_none : (k t : ℕ) → plus_lower k (λ u. 0) t ≡ 0
unfolding plus_lower
lower_none k t = none_either (eqb (bit t k) 1)

-- ---- up, over all variables

unfoldable pub passes : ℕ → (ℕ → ℕ) → ℕ → ℕ
passes zero f = f
passes (suc k) f = plus_lower k (passes k f)

module _ (n : ℕ) where
  -- a pass of a variable below the top one doesn't see it
  lower_shift : (f g : ℕ → ℕ) (k r : ℕ) → k < n → r < 2 ^ n → ((q : ℕ) → q < 2 ^ n → f (2 ^ n + q) ≡ g q) → plus_lower k f (2 ^ n + r) ≡ plus_lower k g r
  lower_shift f g k r l h e = go (bit r k) refl (bit_lt r k)
    where
      go : (x : ℕ) → bit r k ≡ x → x < 2 → plus_lower k f (2 ^ n + r) ≡ plus_lower k g r
      go zero z b = lower_without k f (2 ^ n + r) (top_below n r h k l ∙ z) ∙ e r h ∙ sym (lower_without k g r z)
      go (suc zero) z b =
          let at : 2 ^ n + r - 2 ^ k ≡ 2 ^ n + (r - 2 ^ k) = omega (arith, minus_plus r k z) in
          lower_with k f (2 ^ n + r) (top_below n r h k l ∙ z)
          ∙ ap₂ bit_xor (e r h) (ap f at ∙ e (r - 2 ^ k) (omega arith)) ∙ sym (lower_with k g r z)
      go (suc (suc x)) z b = absurd (omega arith)

  passes_shift : (f : ℕ → ℕ) (k : ℕ) → k ≤ n → (r : ℕ) → r < 2 ^ n → passes k f (2 ^ n + r) ≡ passes k (λ t. f (2 ^ n + t)) r
  unfolding passes
  passes_shift f zero l r h = refl
  passes_shift f (suc k) l r h = lower_shift (passes k f) (passes k (λ t. f (2 ^ n + t))) k r l h (passes_shift f k (omega arith))

  -- the pass of the top variable
  module _ (f g : ℕ → ℕ) (r : ℕ) (h : r < 2 ^ n) (low : g r ≡ parity_within n f r) where
    lower_low : plus_lower n g r ≡ parity_within (suc n) f r
    lower_low = lower_without n g r (top_none n r h) ∙ low ∙ sym (parity_low n f r h)

    lower_top : g (2 ^ n + r) ≡ parity_within n (λ t. f (2 ^ n + t)) r → plus_lower n g (2 ^ n + r) ≡ parity_within (suc n) f (2 ^ n + r)
    lower_top top =
        let F : ℕ = parity_within n f r in
        let G : ℕ = parity_within n (λ t. f (2 ^ n + t)) r in
        let at : 2 ^ n + r - 2 ^ n ≡ r = omega arith in
        let sum : G + F ≡ F + G = omega arith in
        lower_with n g (2 ^ n + r) (top_has n r h) ∙ ap₂ bit_xor top (ap g at ∙ low)
        ∙ xor_parity G F (parity_lt n (λ t. f (2 ^ n + t)) r) (parity_lt n f r) ∙ ap (λ (x : ℕ). x % 2) sum ∙ sym (parity_top n f r h)

pub passes_parity : (n : ℕ) (f : ℕ → ℕ) → ((t : ℕ) → f t < 2) → (s : ℕ) → s < 2 ^ n → passes n f s ≡ parity_within n f s
unfolding passes
passes_parity zero f bits s h = ap f (omega arith) ∙ sym (mod-eq_of_lt (bits 0)) ∙ sym (parity_zero f s)
passes_parity (suc n) f bits s h =
    ⊎_elim (λ l. lower_low n f (passes n f) s l (passes_parity n f bits s l))
    (λ l.
    let r : ℕ = s - 2 ^ n in
    let b : r < 2 ^ n = omega (arith, pow_double n) in
    let at : 2 ^ n + r ≡ s = omega arith in
    subst (λ (x : ℕ). plus_lower n (passes n f) x ≡ parity_within (suc n) f x) at
    (lower_top n f (passes n f) r b (passes_parity n f bits r b)
    (passes_shift n f n (le_refl n) r b ∙ passes_parity n (λ t. f (2 ^ n + t)) (λ t. bits (2 ^ n + t)) r b)))
    (below_or s (2 ^ n))

-- ---- down, at one variable

-- f at a set, and at that set with k
abbrev pairs : ℕ → (ℕ → ℕ) → ℕ → ℕ
pairs k f t = (f t + f (t + 2 ^ k)) % 2

top_lt : (n s : ℕ) → s < 2 ^ suc n → bit s n ≡ 0 → s < 2 ^ n
top_lt n s h e =
    ⊎_elim (λ l. l)
    (λ l. let at : 2 ^ n + (s - 2 ^ n) ≡ s = omega arith in
    absurd (omega (arith, e, sym (ap (λ (x : ℕ). bit x n) at) ∙ top_has n (s - 2 ^ n) (omega (arith, pow_double n)))))
    (below_or s (2 ^ n))

-- the sets within s with k are those within s, each without k and with it
module _ (n k : ℕ) (f : ℕ → ℕ) (s : ℕ) (e : bit s k ≡ 0) where
  pairs_top : k ≡ n → s < 2 ^ n → parity_within (suc n) f (s + 2 ^ k) ≡ parity_within (suc n) (pairs k f) s
  pairs_top at m =
      let same : 2 ^ k ≡ 2 ^ n = ap (λ (x : ℕ). 2 ^ x) at in
      let swap : s + 2 ^ k ≡ 2 ^ n + s = omega arith in
      ap (parity_within (suc n) f) swap ∙ parity_top n f s m
      ∙ ap (λ (x : ℕ). (parity_within n f s + x) % 2)
      (parity_cong n (λ t. f (2 ^ n + t)) (λ t. f (t + 2 ^ k)) s (λ t h. let to : 2 ^ n + t ≡ t + 2 ^ k = omega arith in ap f to))
      ∙ sym (parity_plus n f (λ t. f (t + 2 ^ k)) s) ∙ sym (parity_low n (pairs k f) s m)

  module _ (l : k < n) (ih : (g : ℕ → ℕ) (r : ℕ) → r < 2 ^ n → bit r k ≡ 0 → parity_within n g (r + 2 ^ k) ≡ parity_within n (pairs k g) r) where
    pairs_low : s < 2 ^ n → parity_within (suc n) f (s + 2 ^ k) ≡ parity_within (suc n) (pairs k f) s
    pairs_low m = parity_low n f (s + 2 ^ k) (plus_lt n k s l m e) ∙ ih f s m e ∙ sym (parity_low n (pairs k f) s m)

    pairs_high : s < 2 ^ suc n → 2 ^ n ≤ s → parity_within (suc n) f (s + 2 ^ k) ≡ parity_within (suc n) (pairs k f) s
    pairs_high h m =
        let r : ℕ = s - 2 ^ n in
        let b : r < 2 ^ n = omega (arith, pow_double n) in
        let at : 2 ^ n + r ≡ s = omega arith in
        let out : s + 2 ^ k ≡ 2 ^ n + (r + 2 ^ k) = omega arith in
        let z : bit r k ≡ 0 = sym (top_below n r b k l) ∙ ap (λ (x : ℕ). bit x k) at ∙ e in
        ap (parity_within (suc n) f) out ∙ parity_top n f (r + 2 ^ k) (plus_lt n k r l b z)
        ∙ ap₂ (λ (x y : ℕ). (x + y) % 2) (ih f r b z)
        (ih (λ t. f (2 ^ n + t)) r b z
        ∙ parity_cong n (pairs k (λ t. f (2 ^ n + t))) (λ t. pairs k f (2 ^ n + t)) r (λ t h.
        let to : 2 ^ n + (t + 2 ^ k) ≡ 2 ^ n + t + 2 ^ k = omega arith in ap (λ (x : ℕ). (f (2 ^ n + t) + f x) % 2) to))
        ∙ sym (parity_top n (pairs k f) r b) ∙ ap (parity_within (suc n) (pairs k f)) at

parity_pairs : (n k : ℕ) → k < n → (f : ℕ → ℕ) (s : ℕ) → s < 2 ^ n → bit s k ≡ 0 → parity_within n f (s + 2 ^ k) ≡ parity_within n (pairs k f) s
parity_pairs zero k hk f s hs e = absurd (omega arith)
parity_pairs (suc n) k hk f s hs e =
    ⊎_elim (λ l. ⊎_elim (pairs_low n k f s e l (parity_pairs n k l)) (pairs_high n k f s e l (parity_pairs n k l) hs) (below_or s (2 ^ n)))
    (λ l. let at : k ≡ n = omega arith in pairs_top n k f s e at (top_lt n s hs (ap (bit s) (sym at) ∙ e)))
    (below_or k n)

abbrev moved : ℕ → (ℕ → ℕ) → ℕ → ℕ
moved k g t = g (bit_xor t (2 ^ k))

module _ (n k : ℕ) (hk : k < n) (g : ℕ → ℕ) where
  -- within a set without k, moving is adding k
  without : (s : ℕ) → bit s k ≡ 0 → (t : ℕ) → within t s ≡ true → bit t k ≡ 0
  without s e t h = omega (arith, e, within_bit t s h k)

  parity_moved : (s : ℕ) → s < 2 ^ n → parity_within n (moved k g) s ≡ plus_upper k (parity_within n g) s
  parity_moved s hs = go (bit s k) refl (bit_lt s k)
    where
      go : (b : ℕ) → bit s k ≡ b → b < 2 → parity_within n (moved k g) s ≡ plus_upper k (parity_within n g) s
      go zero e l =
          let high : ℕ = parity_within n (λ t. g (t + 2 ^ k)) s in
          parity_inside n (moved k g) (λ t. g (t + 2 ^ k)) s (λ t h. ap g (xor_with t k (without s e t h)))
          ∙ sym (upper_without k (parity_within n g) s e
          ∙ ap (bit_xor (parity_within n g s)) (parity_pairs n k hk g s hs e ∙ parity_plus n g (λ t. g (t + 2 ^ k)) s)
          ∙ eqb-true _ _ (all_at₂ 2 2 (λ a b. eqb (bit_xor a ((a + b) % 2)) b) refl (parity_within n g s) high (parity_lt n g s) (parity_lt n (λ t. g (t + 2 ^ k)) s)))
      go (suc zero) e l =
          let r : ℕ = s - 2 ^ k in
          let z : bit r k ≡ 0 = minus_bit s k e in
          let at : r + 2 ^ k ≡ s = minus_plus s k e in
          let b : r < 2 ^ n = omega arith in
          ap (parity_within n (moved k g)) (sym at) ∙ parity_pairs n k hk (moved k g) r b z
          ∙ parity_inside n (pairs k (moved k g)) (pairs k g) r (λ t h.
          let c : bit t k ≡ 0 = without r z t h in
          let sum : g (t + 2 ^ k) + g t ≡ g t + g (t + 2 ^ k) = omega arith in
          ap₂ (λ (x y : ℕ). (g x + g y) % 2) (xor_with t k c) (with_xor t k c) ∙ ap (λ (x : ℕ). x % 2) sum)
          ∙ sym (parity_pairs n k hk g r b z) ∙ ap (parity_within n g) at ∙ sym (upper_with k (parity_within n g) s e)
      go (suc (suc b)) e l = absurd (omega arith)

-- With variable k turned in p, a set without k has the sum of its coefficient and that of the set with k; a set with k keeps its own.
pub coefficient_turned : (n k p : ℕ) → k < n → (f : ℕ → ℕ) (s : ℕ) → s < 2 ^ n → coefficient n (bit_xor p (2 ^ k)) f s ≡ plus_upper k (coefficient n p f) s
coefficient_turned n k p hk f s hs =
    parity_cong n (λ t. f (bit_xor t (bit_xor p (2 ^ k)))) (moved k (λ t. f (bit_xor t p))) s (λ t l. ap f (mask_assoc t p (2 ^ k) ∙ mask_swap t p (2 ^ k)))
    ∙ parity_moved n k hk (λ t. f (bit_xor t p)) s hs

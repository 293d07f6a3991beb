-- The parity over the sets within s, split on the top variable; and that it undoes itself.
-- Assumes nothing.
use mathlib.Core.Path.{◌≡◌, refl, ap, ap₂, ◌∙◌, subst}
use mathlib.Core.Logic.{⊎_elim}
use mathlib.Core.Bool.{Bool, true, false, cond}
use Prim.Native.Nat.{ℕ, zero, suc, ◌+◌, ◌-◌, ◌%◌, ◌^◌, ◌<◌}
use native.Mathlib.Nat.{zero-add, add-zero, pow-suc, mod-lt, zero-lt-suc, mod-mod}
use native.Mathlib.Omega.{arith}
use Rattle.bits.specs.Bits.{within}
use Rattle.bits.specs.Below.{sum_below}
use Rattle.bits.proofs.Bools.{below_or}
use Rattle.bits.proofs.Below.{sum_cong, sum_parts, sum_plus, sum_parity, sum_none}
use Rattle.polarity.specs.Forms.{parity_within}
use Rattle.polarity.proofs.Subsets.{within_low, within_top, within_none}

pub pow_double : (n : ℕ) → 2 ^ suc n ≡ 2 ^ n + 2 ^ n
pow_double n = omega (arith, pow-suc 2 n)

-- f t where t is within s
abbrev inside : ℕ → (ℕ → ℕ) → ℕ → ℕ
inside s f t = cond (within t s) (f t) 0

-- ---- split on the top variable

-- no variable
pub parity_zero : (f : ℕ → ℕ) (s : ℕ) → parity_within 0 f s ≡ f 0 % 2
unfolding parity_within sum_below
parity_zero f s = ap (λ (x : ℕ). x % 2) (zero-add (f 0))

sum_double : (n : ℕ) (f : ℕ → ℕ) → sum_below (2 ^ suc n) f ≡ sum_below (2 ^ n) f + sum_below (2 ^ n) (λ t. f (2 ^ n + t))
sum_double n f = ap (λ (m : ℕ). sum_below m f) (pow_double n) ∙ sum_parts (2 ^ n) (2 ^ n) f

-- s without the top variable: the sets within s are the ones of n variables
pub parity_low : (n : ℕ) (f : ℕ → ℕ) (s : ℕ) → s < 2 ^ n → parity_within (suc n) f s ≡ parity_within n f s
unfolding parity_within
parity_low n f s hs =
    ap (λ (x : ℕ). x % 2)
    (sum_double n (inside s f)
    ∙ ap (λ (x : ℕ). sum_below (2 ^ n) (inside s f) + x)
    (sum_none (2 ^ n) (λ t. inside s f (2 ^ n + t)) (λ t ht. ap (λ (b : Bool). cond b (f (2 ^ n + t)) 0) (within_none n t s hs)))
    ∙ add-zero (sum_below (2 ^ n) (inside s f)))

-- s with the top variable: those, and those with the top variable added
pub parity_top : (n : ℕ) (f : ℕ → ℕ) (s : ℕ) → s < 2 ^ n
    → parity_within (suc n) f (2 ^ n + s) ≡ (parity_within n f s + parity_within n (λ t. f (2 ^ n + t)) s) % 2
unfolding parity_within
parity_top n f s hs =
    let low = sum_cong (2 ^ n) (inside (2 ^ n + s) f) (inside s f) (λ t ht. ap (λ (b : Bool). cond b (f t) 0) (within_low n t s ht hs)) in
    let top =
    sum_cong (2 ^ n) (λ t. inside (2 ^ n + s) f (2 ^ n + t)) (inside s (λ t. f (2 ^ n + t)))
    (λ t ht. ap (λ (b : Bool). cond b (f (2 ^ n + t)) 0) (within_top n t s ht hs)) in
    omega (arith, sum_double n (inside (2 ^ n + s) f), low, top)

-- ---- congruence and linearity

-- it looks at f within s only
pub parity_inside : (n : ℕ) (f g : ℕ → ℕ) (s : ℕ) → ((t : ℕ) → within t s ≡ true → f t ≡ g t) → parity_within n f s ≡ parity_within n g s
unfolding parity_within
parity_inside n f g s h = ap (λ (x : ℕ). x % 2) (sum_cong (2 ^ n) (inside s f) (inside s g) (λ t ht. at t (within t s) refl))
  where
    at : (t : ℕ) (b : Bool) → within t s ≡ b → cond b (f t) 0 ≡ cond b (g t) 0
    at t true e = h t e
    at t false e = refl

pub parity_cong : (n : ℕ) (f g : ℕ → ℕ) (s : ℕ) → ((t : ℕ) → t < 2 ^ n → f t ≡ g t) → parity_within n f s ≡ parity_within n g s
unfolding parity_within
parity_cong n f g s h =
    ap (λ (x : ℕ). x % 2) (sum_cong (2 ^ n) (inside s f) (inside s g) (λ t ht. ap (λ (x : ℕ). cond (within t s) x 0) (h t ht)))

pub parity_plus : (n : ℕ) (f g : ℕ → ℕ) (s : ℕ) → parity_within n (λ t. (f t + g t) % 2) s ≡ (parity_within n f s + parity_within n g s) % 2
unfolding parity_within
parity_plus n f g s =
    sum_parity (2 ^ n) (inside s (λ t. (f t + g t) % 2)) (λ t. inside s f t + inside s g t) (λ t. at (within t s) (f t) (g t))
    ∙ omega (arith, sum_plus (2 ^ n) (inside s f) (inside s g))
  where
    at : (b : Bool) (x y : ℕ) → cond b ((x + y) % 2) 0 % 2 ≡ (cond b x 0 + cond b y 0) % 2
    at true x y = mod-mod (x + y) 2
    at false x y = refl

pub parity_lt : (n : ℕ) (f : ℕ → ℕ) (s : ℕ) → parity_within n f s < 2
unfolding parity_within
parity_lt n f s = mod-lt (sum_below (2 ^ n) (inside s f)) (zero-lt-suc 1)

-- ---- it undoes itself

module _ (n : ℕ) (f : ℕ → ℕ) (ih : (g : ℕ → ℕ) (a : ℕ) → a < 2 ^ n → parity_within n (parity_within n g) a ≡ g a % 2) where
  twice_low : (a : ℕ) → a < 2 ^ n → parity_within (suc n) (parity_within (suc n) f) a ≡ f a % 2
  twice_low a l =
      parity_low n (parity_within (suc n) f) a l
      ∙ parity_cong n (parity_within (suc n) f) (parity_within n f) a (parity_low n f)
      ∙ ih f a l

  twice_top : (r : ℕ) → r < 2 ^ n → parity_within (suc n) (parity_within (suc n) f) (2 ^ n + r) ≡ f (2 ^ n + r) % 2
  twice_top r l =
      let g : ℕ → ℕ = λ t. f (2 ^ n + t) in
      let F = parity_within (suc n) f in
      let low : parity_within n F r ≡ f r % 2 = parity_cong n F (parity_within n f) r (parity_low n f) ∙ ih f r l in
      let top : parity_within n (λ t. F (2 ^ n + t)) r ≡ (f r % 2 + g r % 2) % 2 =
      parity_cong n (λ t. F (2 ^ n + t)) (λ t. (parity_within n f t + parity_within n g t) % 2) r (parity_top n f)
      ∙ parity_plus n (parity_within n f) (parity_within n g) r
      ∙ ap₂ (λ (x y : ℕ). (x + y) % 2) (ih f r l) (ih g r l) in
      parity_top n F r l ∙ omega (arith, low, top)

pub parity_twice : (n : ℕ) (f : ℕ → ℕ) (a : ℕ) → a < 2 ^ n → parity_within n (parity_within n f) a ≡ f a % 2
parity_twice zero f a h =
    parity_zero (parity_within 0 f) a ∙ ap (λ (x : ℕ). x % 2) (parity_zero f 0) ∙ mod-mod (f 0) 2
    ∙ ap (λ (x : ℕ). f x % 2) (omega arith)
parity_twice (suc n) f a h =
    ⊎_elim (λ l. twice_low n f (parity_twice n) a l)
    (λ l. subst (λ (k : ℕ). parity_within (suc n) (parity_within (suc n) f) k ≡ f k % 2) (omega arith)
    (twice_top n f (parity_twice n) (a - 2 ^ n) (omega (arith, pow_double n))))
    (below_or a (2 ^ n))

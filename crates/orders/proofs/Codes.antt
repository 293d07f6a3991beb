-- Laws of the literal codes 0, 1, 2: the third of two, the halves of a split, the exchange of an L step, and permutations of the codes.
-- Assumes nothing.
use mathlib.Core.Path.{◌≡◌, refl, ap₂}
use mathlib.Core.Logic.{◌≢◌}
use mathlib.Core.Bool.{Bool, true, false, not, cond, ◌&&◌, ◌||◌}
use Prim.Native.Nat.{ℕ, ◌-◌, ◌<◌}
use native.Mathlib.Omega.{arith}
use lib.Dec.{eqb, ltb}
use borrow.Author.Tests.{eqb-true, eqb-false, ne_eqb, ltb-true, not-true}
use Rattle.bits.specs.Below.{all_below}
use Rattle.bits.proofs.Bools.{both_true, or_right, all_at, all_at₂}
use Rattle.orders.specs.Codes.{neither, third, third_of, lower, higher, exchange}

-- ---- the third of two codes

-- a rule of two different codes, by one test computed over all of them
pub two_codes : (f : ℕ → ℕ → Bool) → all_below 3 (λ x. all_below 3 (λ y. eqb y x || f x y)) ≡ true
    → (x y : ℕ) → x < 3 → y < 3 → y ≢ x → f x y ≡ true
two_codes f t x y hx hy d = or_right (eqb y x) (f x y) (ne_eqb y x d) (all_at₂ 3 3 (λ x y. eqb y x || f x y) t x y hx hy)

pub third_lt : (x y : ℕ) → third x y < 3
unfolding third
third_lt x y = go (neither 0 x y) (neither 1 x y)
  where
    go : (a b : Bool) → cond a 0 (cond b 1 2) < 3
    go true b = omega arith
    go false true = omega arith
    go false false = omega arith

and_comm : (a b : Bool) → (a && b) ≡ (b && a)
and_comm true true = refl
and_comm true false = refl
and_comm false true = refl
and_comm false false = refl

pub third_comm : (x y : ℕ) → third x y ≡ third y x
unfolding third
third_comm x y =
    ap₂ (λ (a b : Bool). cond a 0 (cond b 1 2)) (and_comm (not (eqb 0 x)) (not (eqb 0 y))) (and_comm (not (eqb 1 x)) (not (eqb 1 y)))

-- it is neither of the two
pub third_not_first : (x y : ℕ) → x < 3 → y < 3 → y ≢ x → third x y ≢ x
unfolding third
third_not_first x y hx hy d = eqb-false _ _ (not-true _ (two_codes (λ x y. not (eqb (third x y) x)) refl x y hx hy d))

pub third_not_second : (x y : ℕ) → x < 3 → y < 3 → y ≢ x → third x y ≢ y
unfolding third
third_not_second x y hx hy d = eqb-false _ _ (not-true _ (two_codes (λ x y. not (eqb (third x y) y)) refl x y hx hy d))

-- and with either of them it gives the other back
pub third_back : (x y : ℕ) → x < 3 → y < 3 → y ≢ x → third (third x y) y ≡ x
unfolding third
third_back x y hx hy d = eqb-true _ _ (two_codes (λ x y. eqb (third (third x y) y) x) refl x y hx hy d)

-- the three add up to 3, so it is 3 less both
pub third_less_both : (x y : ℕ) → x < 3 → y < 3 → y ≢ x → third x y ≡ 3 - x - y
unfolding third
third_less_both x y hx hy d = eqb-true _ _ (two_codes (λ x y. eqb (third x y) (3 - x - y)) refl x y hx hy d)

pub third_of_codes : (x y : ℕ) → x < 3 → y < 3 → y ≢ x → third_of x y ≡ third x y
unfolding third third_of
third_of_codes x y hx hy d = eqb-true _ _ (two_codes (λ x y. eqb (third_of x y) (third x y)) refl x y hx hy d)

-- ---- the two codes of a split

pub lower_lt : (x : ℕ) → lower x < 3
lower_lt x = go (eqb x 0)
  where
    go : (b : Bool) → cond b 1 0 < 3
    go true = omega arith
    go false = omega arith

pub higher_lt : (x : ℕ) → higher x < 3
higher_lt x = go (eqb x 2)
  where
    go : (b : Bool) → cond b 1 2 < 3
    go true = omega arith
    go false = omega arith

-- neither is the code itself, and one is lower
pub lower_other : (x : ℕ) → x < 3 → lower x ≢ x
lower_other x h = eqb-false _ _ (not-true _ (all_at 3 (λ x. not (eqb (lower x) x)) refl x h))

pub higher_other : (x : ℕ) → x < 3 → higher x ≢ x
higher_other x h = eqb-false _ _ (not-true _ (all_at 3 (λ x. not (eqb (higher x) x)) refl x h))

pub lower_higher : (x : ℕ) → x < 3 → lower x < higher x
lower_higher x h = ltb-true _ _ (all_at 3 (λ x. ltb (lower x) (higher x)) refl x h)

pub higher_third : (x : ℕ) → x < 3 → higher x ≡ third x (lower x)
unfolding third
higher_third x h = eqb-true _ _ (all_at 3 (λ x. eqb (higher x) (third x (lower x))) refl x h)

-- ---- permutations of the codes

-- σ keeps codes codes, different codes different, and thirds thirds
pub record Permutes (σ : ℕ → ℕ) : Type 0 where
  pub bound : (x : ℕ) → x < 3 → σ x < 3
  pub distinct : (x y : ℕ) → x < 3 → y < 3 → y ≢ x → σ y ≢ σ x
  pub thirds : (x y : ℕ) → x < 3 → y < 3 → y ≢ x → σ (third x y) ≡ third (σ x) (σ y)

-- the same as one test
unfoldable pub permutes : (ℕ → ℕ) → Bool
permutes σ =
    all_below 3 (λ x. ltb (σ x) 3)
    && all_below 3 (λ x. all_below 3 (λ y. eqb y x || (not (eqb (σ y) (σ x)) && eqb (σ (third x y)) (third (σ x) (σ y)))))

pub permutes_tested : (σ : ℕ → ℕ) → permutes σ ≡ true → Permutes σ
unfolding permutes
permutes_tested σ t = record {
  bound = λ x hx. ltb-true (σ x) 3 (all_at 3 (λ x. ltb (σ x) 3) tests.0 x hx);
  distinct = λ x y hx hy d. eqb-false (σ y) (σ x) (not-true (eqb (σ y) (σ x)) (pair x y hx hy d).0);
  thirds = λ x y hx hy d. eqb-true (σ (third x y)) (third (σ x) (σ y)) (pair x y hx hy d).1;
}
  where
    at : ℕ → ℕ → Bool
    at x y = not (eqb (σ y) (σ x)) && eqb (σ (third x y)) (third (σ x) (σ y))

    tests : (all_below 3 (λ x. ltb (σ x) 3) ≡ true) × (all_below 3 (λ x. all_below 3 (λ y. eqb y x || at x y)) ≡ true)
    tests = both_true (all_below 3 (λ x. ltb (σ x) 3)) (all_below 3 (λ x. all_below 3 (λ y. eqb y x || at x y))) t

    pair : (x y : ℕ) → x < 3 → y < 3 → y ≢ x → (not (eqb (σ y) (σ x)) ≡ true) × (eqb (σ (third x y)) (third (σ x) (σ y)) ≡ true)
    pair x y hx hy d = both_true (not (eqb (σ y) (σ x))) (eqb (σ (third x y)) (third (σ x) (σ y))) (two_codes at tests.1 x y hx hy d)

-- ---- the exchange of an L step

pub exchange_permutes : (b : ℕ) → b < 2 → Permutes (exchange b)
unfolding permutes third
exchange_permutes b h = permutes_tested (exchange b) (all_at 2 (λ b. permutes (exchange b)) refl b h)

pub exchange_lt : (b x : ℕ) → b < 2 → x < 3 → exchange b x < 3
exchange_lt b x h hx = (exchange_permutes b h).bound x hx

-- it is its own inverse
pub exchange_twice : (b x : ℕ) → b < 2 → x < 3 → exchange b (exchange b x) ≡ x
exchange_twice b x h hx = eqb-true _ _ (all_at₂ 2 3 (λ b x. eqb (exchange b (exchange b x)) x) refl b x h hx)

-- The six orders are the permutations of the codes 0, 1, 2, and the table of following one by another is their group: each fact one computed test.
-- Assumes nothing.
use mathlib.Core.Path.{◌≡◌, refl, ap}
use mathlib.Core.Logic.{◌≢◌}
use mathlib.Core.Bool.{Bool, true, false, not, cond, ◌&&◌, ◌||◌}
use Prim.Native.Nat.{ℕ, zero, suc, ◌+◌, ◌*◌, ◌<◌}
use native.Mathlib.Omega.{arith}
use lib.Dec.{eqb, ltb}
use borrow.Author.Tests.{eqb-true, eq-eqb, ne_eqb, ltb-true}
use Rattle.bits.specs.Below.{all_below}
use Rattle.bits.specs.Sums.{one_if}
use Rattle.bits.proofs.Bools.{all_at, all_at₂, all_at₃, all_true, both_true, or_right}
use Rattle.orders.specs.Codes.{third, exchange}
use Rattle.orders.specs.Orders.{order_count, no_order, code_after, follow, inverse, letter_order}
use Rattle.orders.proofs.Codes.{Permutes, permutes, permutes_tested}

-- the order that takes 0, 1, 2 to x, y, z
abbrev pub order_of : ℕ → ℕ → ℕ → ℕ
order_of x y z = 2 * x + one_if (ltb z y)

-- ---- each order is a permutation of the codes, and no two are the same

pub code_after_permutes : (o : ℕ) → o < order_count → Permutes (code_after o)
unfolding permutes third code_after
code_after_permutes o h = permutes_tested (code_after o) (all_at 6 (λ o. permutes (code_after o)) refl o h)

pub code_after_lt : (o x : ℕ) → o < order_count → x < 3 → code_after o x < 3
code_after_lt o x h hx = (code_after_permutes o h).bound x hx

pub orders_distinct : (p q : ℕ) → p < order_count → q < order_count → ((x : ℕ) → x < 3 → code_after p x ≡ code_after q x) → p ≡ q
unfolding code_after
orders_distinct p q hp hq h =
    eqb-true p q (or_right (not (same p q)) (eqb p q) (ap not (all_true 3 (λ x. eqb (code_after p x) (code_after q x)) (λ x l. eq-eqb _ _ (h x l))))
    (all_at₂ 6 6 (λ p q. not (same p q) || eqb p q) refl p q hp hq))
  where
    same : ℕ → ℕ → Bool
    same p q = all_below 3 (λ x. eqb (code_after p x) (code_after q x))

-- and there are no others
pub record IsOrder (σ : ℕ → ℕ) (o : ℕ) : Type 0 where
  pub order : o < order_count
  pub images : (x : ℕ) → x < 3 → σ x ≡ code_after o x

named : ℕ → ℕ → ℕ → ℕ → Bool
named o x y z = ltb o 6 && (eqb x (code_after o 0) && (eqb y (code_after o 1) && eqb z (code_after o 2)))

permutation_named : (x y z : ℕ) → x < 3 → y < 3 → z < 3 → y ≢ x → z ≢ x → z ≢ y → named (order_of x y z) x y z ≡ true
unfolding named code_after
permutation_named x y z hx hy hz d e f =
    or_right (eqb z y) (named (order_of x y z) x y z) (ne_eqb z y f)
    (or_right (eqb z x) (eqb z y || named (order_of x y z) x y z) (ne_eqb z x e)
    (or_right (eqb y x) (eqb z x || (eqb z y || named (order_of x y z) x y z)) (ne_eqb y x d)
    (all_at₃ 3 3 3 (λ x y z. eqb y x || (eqb z x || (eqb z y || named (order_of x y z) x y z))) refl x y z hx hy hz)))

pub permutation_order : (σ : ℕ → ℕ) → Permutes σ → IsOrder σ (order_of (σ 0) (σ 1) (σ 2))
unfolding named
permutation_order σ s =
    let lt = s.bound in
    let t = permutation_named (σ 0) (σ 1) (σ 2) (lt 0 (omega arith)) (lt 1 (omega arith)) (lt 2 (omega arith))
    (s.distinct 0 1 (omega arith) (omega arith) (omega arith)) (s.distinct 0 2 (omega arith) (omega arith) (omega arith))
    (s.distinct 1 2 (omega arith) (omega arith) (omega arith)) in
    let p = both_true _ _ t in
    let q = both_true _ _ p.1 in
    let r = both_true _ _ q.1 in
    record { order = ltb-true _ _ p.0; images = λ x h. at x h (eqb-true _ _ q.0) (eqb-true _ _ r.0) (eqb-true _ _ r.1) }
  where
    o : ℕ
    o = order_of (σ 0) (σ 1) (σ 2)

    at : (x : ℕ) → x < 3 → σ 0 ≡ code_after o 0 → σ 1 ≡ code_after o 1 → σ 2 ≡ code_after o 2 → σ x ≡ code_after o x
    at zero h p q r = p
    at (suc zero) h p q r = q
    at (suc (suc zero)) h p q r = r
    at (suc (suc (suc x))) h p q r = absurd (omega arith)

-- ---- the table

pub follow_lt : (p q : ℕ) → p < order_count → q < order_count → follow p q < order_count
unfolding follow
follow_lt p q hp hq = ltb-true _ _ (all_at₂ 6 6 (λ p q. ltb (follow p q) 6) refl p q hp hq)

pub follow_assoc : (p q r : ℕ) → p < order_count → q < order_count → r < order_count → follow (follow p q) r ≡ follow p (follow q r)
unfolding follow
follow_assoc p q r hp hq hr = eqb-true _ _ (all_at₃ 6 6 6 (λ p q r. eqb (follow (follow p q) r) (follow p (follow q r))) refl p q r hp hq hr)

pub follow_none : (p : ℕ) → p < order_count → follow p no_order ≡ p
unfolding follow
follow_none p h = eqb-true _ _ (all_at 6 (λ p. eqb (follow p no_order) p) refl p h)

pub none_follow : (p : ℕ) → p < order_count → follow no_order p ≡ p
unfolding follow
none_follow p h = eqb-true _ _ (all_at 6 (λ p. eqb (follow no_order p) p) refl p h)

pub inverse_lt : (p : ℕ) → p < order_count → inverse p < order_count
unfolding inverse
inverse_lt p h = ltb-true _ _ (all_at 6 (λ p. ltb (inverse p) 6) refl p h)

pub follow_inverse : (p : ℕ) → p < order_count → follow p (inverse p) ≡ no_order
unfolding follow inverse
follow_inverse p h = eqb-true _ _ (all_at 6 (λ p. eqb (follow p (inverse p)) no_order) refl p h)

pub inverse_follow : (p : ℕ) → p < order_count → follow (inverse p) p ≡ no_order
unfolding follow inverse
inverse_follow p h = eqb-true _ _ (all_at 6 (λ p. eqb (follow (inverse p) p) no_order) refl p h)

-- ---- what the table says of the codes

-- p followed by q does p and then q
pub code_after_follow : (p q x : ℕ) → p < order_count → q < order_count → x < 3 → code_after (follow p q) x ≡ code_after q (code_after p x)
unfolding follow code_after
code_after_follow p q x hp hq hx = eqb-true _ _ (all_at₃ 6 6 3 (λ p q x. eqb (code_after (follow p q) x) (code_after q (code_after p x))) refl p q x hp hq hx)

pub code_after_none : (x : ℕ) → x < 3 → code_after no_order x ≡ x
unfolding code_after
code_after_none x h = eqb-true _ _ (all_at 3 (λ x. eqb (code_after no_order x) x) refl x h)

pub inverse_none : inverse no_order ≡ no_order
unfolding inverse
inverse_none = refl

-- an order and its inverse take each other back
pub inverse_code_after : (p x : ℕ) → p < order_count → x < 3 → code_after (inverse p) (code_after p x) ≡ x
unfolding code_after inverse
inverse_code_after p x h hx = eqb-true _ _ (all_at₂ 6 3 (λ p x. eqb (code_after (inverse p) (code_after p x)) x) refl p x h hx)

pub code_after_inverse : (p x : ℕ) → p < order_count → x < 3 → code_after p (code_after (inverse p) x) ≡ x
unfolding code_after inverse
code_after_inverse p x h hx = eqb-true _ _ (all_at₂ 6 3 (λ p x. eqb (code_after p (code_after (inverse p) x)) x) refl p x h hx)

-- to take back p followed by q, q is taken back first
pub inverse_following : (p q : ℕ) → p < order_count → q < order_count → inverse (follow p q) ≡ follow (inverse q) (inverse p)
unfolding follow inverse
inverse_following p q hp hq = eqb-true _ _ (all_at₂ 6 6 (λ p q. eqb (inverse (follow p q)) (follow (inverse q) (inverse p))) refl p q hp hq)

-- ---- the order of an L step

pub letter_lt : (b : ℕ) → letter_order b < order_count
unfolding letter_order
letter_lt b = go (eqb b 0)
  where
    go : (t : Bool) → cond t 5 1 < 6
    go true = omega arith
    go false = omega arith

-- it exchanges the literal's code and 2
pub code_after_letter : (b x : ℕ) → b < 2 → x < 3 → code_after (letter_order b) x ≡ exchange b x
unfolding code_after letter_order
code_after_letter b x h hx = eqb-true _ _ (all_at₂ 2 3 (λ b x. eqb (code_after (letter_order b) x) (exchange b x)) refl b x h hx)

-- and is its own inverse
pub letter_inverse : (b : ℕ) → b < 2 → inverse (letter_order b) ≡ letter_order b
unfolding inverse letter_order
letter_inverse b h = eqb-true _ _ (all_at 2 (λ b. eqb (inverse (letter_order b)) (letter_order b)) refl b h)

-- Laws of Bools: of `&&`, of the sum modulo 2, and a rule for all numbers below small bounds by one computed test.
-- Assumes nothing.
use mathlib.Core.Path.{◌≡◌, refl, sym, ap, ap₂, ◌∙◌}
use mathlib.Core.Logic.{⊎_elim, ◌⊎◌, inl, inr}
use mathlib.Core.Bool.{Bool, true, false, ◌&&◌, ◌||◌, not, beq, true≢false, false≢true}
use Prim.Native.Nat.{ℕ, zero, suc, ◌+◌, ◌%◌, ◌<◌, ◌≤◌}
use native.Mathlib.Nat.{eq-or-lt_of_le, le_of_suc-le-suc, not-suc-le-zero}
use native.Mathlib.Omega.{arith}
use lib.Dec.{eqb, ltb}
use borrow.Author.Tests.{eqb-true, ltb-true, ltb-false}
use Rattle.bits.specs.Below.{all_below}
use Rattle.bits.specs.Sums.{◌⊕◌, one_if}

-- ---- and

pub both_true : (a b : Bool) → (a && b) ≡ true → (a ≡ true) × (b ≡ true)
both_true true b e = (refl, e)
both_true false b e = absurd (false≢true e)

pub true_both : {a b : Bool} → a ≡ true → b ≡ true → (a && b) ≡ true
true_both {a} {b} p q = ap₂ (λ (x y : Bool). x && y) p q

pub or_right : (a b : Bool) → a ≡ false → (a || b) ≡ true → b ≡ true
or_right true b f e = absurd (true≢false f)
or_right false b f e = e

pub and_true : (a : Bool) → (a && true) ≡ a
and_true true = refl
and_true false = refl

pub never_true : (a : Bool) → (a ≡ true → ⊥) → a ≡ false
never_true true h = absurd (h refl)
never_true false h = refl

pub same_bool : (a b : Bool) → (a ≡ true → b ≡ true) → (b ≡ true → a ≡ true) → a ≡ b
same_bool true b f g = sym (f refl)
same_bool false true f g = g refl
same_bool false false f g = refl

pub beq_eq : (a b : Bool) → beq a b ≡ true → a ≡ b
beq_eq true true e = refl
beq_eq true false e = absurd (false≢true e)
beq_eq false true e = absurd (false≢true e)
beq_eq false false e = refl

pub one_lt : (b : Bool) → one_if b < 2
one_lt true = omega arith
one_lt false = omega arith

pub below_or : (a m : ℕ) → (a < m) ⊎ (m ≤ a)
below_or a m = go (ltb a m) refl
  where
    go : (b : Bool) → ltb a m ≡ b → (a < m) ⊎ (m ≤ a)
    go true e = inl (ltb-true a m e)
    go false e = inr (ltb-false a m e)

-- ---- a test computed once over all numbers below n gives the rule at each

pub all_at : (n : ℕ) (f : ℕ → Bool) → all_below n f ≡ true → (k : ℕ) → k < n → f k ≡ true
all_at zero f e k l = absurd (not-suc-le-zero l)
all_at (suc n) f e k l =
    let p = both_true (all_below n f) (f n) e in
    ⊎_elim (λ s. ap f s ∙ p.1) (λ m. all_at n f p.0 k m) (eq-or-lt_of_le (le_of_suc-le-suc l))

pub all_at₂ : (m n : ℕ) (f : ℕ → ℕ → Bool) → all_below m (λ x. all_below n (f x)) ≡ true → (x y : ℕ) → x < m → y < n → f x y ≡ true
all_at₂ m n f e x y hx hy = all_at n (f x) (all_at m (λ x. all_below n (f x)) e x hx) y hy

pub all_at₃ : (m n o : ℕ) (f : ℕ → ℕ → ℕ → Bool) → all_below m (λ x. all_below n (λ y. all_below o (f x y))) ≡ true
    → (x y z : ℕ) → x < m → y < n → z < o → f x y z ≡ true
all_at₃ m n o f e x y z hx hy hz = all_at o (f x y) (all_at₂ m n (λ x y. all_below o (f x y)) e x y hx hy) z hz

-- a bit is 1 where it is not 0
pub bit_one : (x : ℕ) → x < 2 → one_if (not (eqb x 0)) ≡ x
bit_one x h = eqb-true _ _ (all_at 2 (λ x. eqb (one_if (not (eqb x 0))) x) refl x h)

pub all_true : (n : ℕ) (f : ℕ → Bool) → ((k : ℕ) → k < n → f k ≡ true) → all_below n f ≡ true
all_true zero f h = refl
all_true (suc n) f h = true_both (all_true n f (λ k l. h k (omega arith))) (h n (omega arith))

pub all_ext : (n : ℕ) (f g : ℕ → Bool) → ((k : ℕ) → k < n → f k ≡ g k) → all_below n f ≡ all_below n g
all_ext zero f g h = refl
all_ext (suc n) f g h = ap₂ (λ (x y : Bool). x && y) (all_ext n f g (λ k l. h k (omega arith))) (h n (omega arith))

-- ---- the sum of two bits

pub xor_assoc : (a b c : Bool) → a ⊕ b ⊕ c ≡ a ⊕ (b ⊕ c)
xor_assoc true true true = refl
xor_assoc true true false = refl
xor_assoc true false c = refl
xor_assoc false b c = refl

pub xor_comm : (a b : Bool) → a ⊕ b ≡ b ⊕ a
xor_comm true true = refl
xor_comm true false = refl
xor_comm false true = refl
xor_comm false false = refl

pub xor_self : (a : Bool) → a ⊕ a ≡ false
xor_self true = refl
xor_self false = refl

pub xor_false : (a : Bool) → a ⊕ false ≡ a
xor_false true = refl
xor_false false = refl

pub xor_cancel : (a b : Bool) → a ⊕ b ⊕ b ≡ a
xor_cancel a b = xor_assoc a b b ∙ ap (λ (x : Bool). a ⊕ x) (xor_self b) ∙ xor_false a

pub xor_swap : (a b c : Bool) → a ⊕ b ⊕ c ≡ a ⊕ c ⊕ b
xor_swap a b c = xor_assoc a b c ∙ ap (λ (x : Bool). a ⊕ x) (xor_comm b c) ∙ sym (xor_assoc a c b)

pub xor_and : (a b r : Bool) → (a ⊕ b) && r ≡ (a && r) ⊕ (b && r)
xor_and true true true = refl
xor_and true true false = refl
xor_and true false true = refl
xor_and true false false = refl
xor_and false b r = refl

pub and_xor : (r a b : Bool) → r && (a ⊕ b) ≡ (r && a) ⊕ (r && b)
and_xor true a b = refl
and_xor false a b = refl

-- the parity of a count and a bit
pub parity_step : (b s : Bool) (t : ℕ) → t % 2 ≡ one_if s → (one_if b + t) % 2 ≡ one_if (b ⊕ s)
parity_step true true t e = omega arith
parity_step true false t e = omega arith
parity_step false true t e = omega arith
parity_step false false t e = omega arith

pub one_injective : (a b : Bool) → one_if a ≡ one_if b → a ≡ b
one_injective true true e = refl
one_injective true false e = absurd (omega arith)
one_injective false true e = absurd (omega arith)
one_injective false false e = refl

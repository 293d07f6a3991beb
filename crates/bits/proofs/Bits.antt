-- Laws of bits: of and, or and xor, of a changed bit, of shifts, and that a number is its bits.
-- Assumes nothing.
use mathlib.Core.Path.{◌≡◌, refl, sym, ap, ap₂, ◌∙◌, subst}
use mathlib.Core.Logic.{◌≢◌, ⊎_elim}
use mathlib.Core.Bool.{Bool, true, false, cond, ◌&&◌}
use Prim.Native.Nat.{ℕ, zero, suc, ◌+◌, ◌-◌, ◌*◌, ◌/◌, ◌%◌, ◌^◌, ◌≤◌, ◌<◌, min, max, zero-le, suc-le-suc}
use native.Mathlib.Nat.{mod-lt, mod-le, div-one, mul-one, mul_assoc, pow-suc, div-eq_of_lt, lt_of_lt_of_le, lt_of_not-le, le_trans, mul-le-mul_right, div-mul-le_self, zero-lt-suc, div-add-mod', div-lt_iff_lt-mul, one-mul, min-zero, max-zero, min-eq_left, add_comm, le_refl}
use native.Mathlib.Decide.{ℕ_discrete, dec_le}
use native.Mathlib.Numerals.{add-one, one-add}
use native.Mathlib.Omega.{arith}
use borrow.Author.Tests.{eqb-true, eq-eqb, ltb-true, ltb-false}
use lib.Arith.{digits_mod, digits_div, bin_ind}
use lib.Dec.{eqb, ltb, lit<}
use lib.Pow.{pow_pos, pow_mono, pow-add, shr-shr, shl-shr, shr_lt, shl_exact, field, mod-mod-pow}
use lib.Bits.{bit_and, bit_or, bit_xor, differ, and_shr, or_shr, xor_shr, and_step, or_step, xor_step, and_le_l, and_le_r, or_add_and}
use Rattle.bits.specs.Bits.{bit, with_bit, within}
use Rattle.bits.proofs.Bools.{both_true, true_both, same_bool, below_or, all_at₂}

pub bit_lt : (x k : ℕ) → bit x k < 2
bit_lt x k = mod-lt (x / 2 ^ k) (zero-lt-suc 1)

pub bit_zero : (x : ℕ) → bit x 0 ≡ x % 2
bit_zero x = ap (λ (y : ℕ). y % 2) (div-one x)

pub bit_suc : (x k : ℕ) → bit x (suc k) ≡ bit (x / 2) k
bit_suc x k = ap (λ (j : ℕ). x / 2 ^ j % 2) (sym (one-add k)) ∙ ap (λ (y : ℕ). y % 2) (sym (shr-shr x 1 k))

pub half_lt : (n x : ℕ) → x < 2 ^ suc n → x / 2 < 2 ^ n
half_lt n x h = shr_lt n 1 (subst (λ (j : ℕ). x < 2 ^ j) (sym (add-one n)) h)

-- ---- a number is its bits

module _ (x y : ℕ) where
  halves : x / 2 ≡ y / 2 → x % 2 ≡ y % 2 → x ≡ y
  halves h l = sym (div-add-mod' x 2) ∙ ap₂ (λ (a b : ℕ). a * 2 + b) h l ∙ div-add-mod' y 2

  lowest : ((k : ℕ) → bit x k ≡ bit y k) → x % 2 ≡ y % 2
  lowest e = sym (bit_zero x) ∙ e 0 ∙ bit_zero y

  upper : ((k : ℕ) → bit x k ≡ bit y k) → (k : ℕ) → bit (x / 2) k ≡ bit (y / 2) k
  upper e k = sym (bit_suc x k) ∙ e (suc k) ∙ bit_suc y k

no_bits : (y : ℕ) → ((k : ℕ) → bit 0 k ≡ bit y k) → 0 ≡ y
no_bits = bin_ind (λ (y : ℕ). ((k : ℕ) → bit 0 k ≡ bit y k) → 0 ≡ y) (λ e. refl)
    (λ y ih e. halves 0 y (ih (upper 0 y e)) (lowest 0 y e))

pub bit_ext : (x y : ℕ) → ((k : ℕ) → bit x k ≡ bit y k) → x ≡ y
bit_ext = bin_ind (λ (x : ℕ). (y : ℕ) → ((k : ℕ) → bit x k ≡ bit y k) → x ≡ y) no_bits
    (λ x ih y e. halves x y (ih (y / 2) (upper x y e)) (lowest x y e))

-- ---- a number below 2 ^ n has no bit at or above n

pub bit_high : (n x k : ℕ) → x < 2 ^ n → n ≤ k → bit x k ≡ 0
bit_high n x k h l = ap (λ (y : ℕ). y % 2) (div-eq_of_lt (lt_of_lt_of_le h (pow_mono l)))

pub below_pow : (n x : ℕ) → ((k : ℕ) → n ≤ k → bit x k ≡ 0) → x < 2 ^ n
below_pow zero x h = omega (arith, bit_ext x 0 (λ k. h k zero-le ∙ sym (bit_high 0 0 k (lit< tt) zero-le)))
below_pow (suc n) x h =
    let half : x / 2 < 2 ^ n = below_pow n (x / 2) (λ k l. sym (bit_suc x k) ∙ h (suc k) (suc-le-suc l)) in
    omega (arith, half, pow-suc 2 n)

-- two numbers below 2 ^ n with the same bits below n
pub bit_ext_below : (n x y : ℕ) → x < 2 ^ n → y < 2 ^ n → ((k : ℕ) → k < n → bit x k ≡ bit y k) → x ≡ y
bit_ext_below n x y hx hy e = bit_ext x y (λ k. go k (dec_le n k))
  where
    go : (k : ℕ) → Dec (n ≤ k) → bit x k ≡ bit y k
    go k (yes l) = bit_high n x k hx l ∙ sym (bit_high n y k hy l)
    go k (no l) = e k (lt_of_not-le l)

-- ---- the bits of an operation that works bit by bit

module _ (op f : ℕ → ℕ → ℕ) (shr : (a b k : ℕ) → op a b / 2 ^ k ≡ op (a / 2 ^ k) (b / 2 ^ k))
    (step : (a b : ℕ) → op a b ≡ op (a / 2) (b / 2) * 2 + f (a % 2) (b % 2))
    (bound : (x y : ℕ) → x < 2 → y < 2 → f x y < 2) where
  bit_op : (a b k : ℕ) → bit (op a b) k ≡ f (bit a k) (bit b k)
  bit_op a b k =
      ap (λ (x : ℕ). x % 2) (shr a b k ∙ step (a / 2 ^ k) (b / 2 ^ k))
      ∙ digits_mod (op (a / 2 ^ k / 2) (b / 2 ^ k / 2)) (bound (bit a k) (bit b k) (bit_lt a k) (bit_lt b k))

min_lt : (x y : ℕ) → x < 2 → y < 2 → min x y < 2
min_lt x y hx hy = omega arith

max_lt : (x y : ℕ) → x < 2 → y < 2 → max x y < 2
max_lt x y hx hy = omega arith

pub differ_lt : (x y : ℕ) → x < 2 → y < 2 → differ x y < 2
differ_lt zero y hx hy = hy
differ_lt (suc x) zero hx hy = hx
differ_lt (suc x) (suc y) hx hy = differ_lt x y (omega arith) (omega arith)

pub bit_and_lem : (a b k : ℕ) → bit (bit_and a b) k ≡ min (bit a k) (bit b k)
bit_and_lem = bit_op bit_and min and_shr and_step min_lt

pub bit_or_lem : (a b k : ℕ) → bit (bit_or a b) k ≡ max (bit a k) (bit b k)
bit_or_lem = bit_op bit_or max or_shr or_step max_lt

pub bit_xor_lem : (a b k : ℕ) → bit (bit_xor a b) k ≡ differ (bit a k) (bit b k)
bit_xor_lem = bit_op bit_xor differ xor_shr xor_step differ_lt

pub bit_xor_bits : (x y j : ℕ) → bit (bit_xor x y) j ≡ bit_xor (bit x j) (bit y j)
bit_xor_bits x y j =
    bit_xor_lem x y j ∙ sym (eqb-true _ _ (all_at₂ 2 2 (λ x y. eqb (bit_xor x y) (differ x y)) refl (bit x j) (bit y j) (bit_lt x j) (bit_lt y j)))

-- ---- within, bit by bit

pub within_bit : (t s : ℕ) → within t s ≡ true → (k : ℕ) → bit t k ≤ bit s k
within_bit t s e k = omega (arith, sym (bit_and_lem t s k) ∙ ap (λ (x : ℕ). bit x k) (eqb-true (bit_and t s) t e))

pub bit_within : (t s : ℕ) → ((k : ℕ) → bit t k ≤ bit s k) → within t s ≡ true
bit_within t s h = eq-eqb (bit_and t s) t (bit_ext (bit_and t s) t (λ k. bit_and_lem t s k ∙ min-eq_left (h k)))

-- ---- a changed bit

pub weight_le : (x k : ℕ) → bit x k * 2 ^ k ≤ x
weight_le x k = le_trans (mul-le-mul_right (2 ^ k) (mod-le (x / 2 ^ k) 2)) (div-mul-le_self x (2 ^ k))

with_zero : (x b : ℕ) → with_bit x 0 b ≡ x / 2 * 2 + b
unfolding with_bit
with_zero x b = simp (div-one, mul-one) (omega arith)

with_suc : (x k b : ℕ) → with_bit x (suc k) b ≡ with_bit (x / 2) k b * 2 + x % 2
unfolding with_bit
with_suc x k b =
    let l = weight_le (x / 2) k in
    let e : bit x (suc k) * 2 ^ suc k ≡ bit (x / 2) k * 2 ^ k * 2 =
    ap₂ (λ (y z : ℕ). y * z) (bit_suc x k) (pow-suc 2 k) ∙ sym (mul_assoc (bit (x / 2) k) (2 ^ k) 2) in
    let f : b * 2 ^ suc k ≡ b * 2 ^ k * 2 = ap (λ (z : ℕ). b * z) (pow-suc 2 k) ∙ sym (mul_assoc b (2 ^ k) 2) in
    omega arith

pub with_same : (x k b : ℕ) → b < 2 → bit (with_bit x k b) k ≡ b
with_same x zero b h = bit_zero (with_bit x 0 b) ∙ ap (λ (y : ℕ). y % 2) (with_zero x b) ∙ digits_mod (x / 2) h
with_same x (suc k) b h =
    bit_suc (with_bit x (suc k) b) k
    ∙ ap (λ (y : ℕ). bit (y / 2) k) (with_suc x k b)
    ∙ ap (λ (y : ℕ). bit y k) (digits_div (with_bit (x / 2) k b) (mod-lt x (zero-lt-suc 1)))
    ∙ with_same (x / 2) k b h

pub with_other : (x k b j : ℕ) → b < 2 → j ≢ k → bit (with_bit x k b) j ≡ bit x j
with_other x zero b zero h ne = absurd (ne refl)
with_other x zero b (suc j) h ne =
    bit_suc (with_bit x 0 b) j
    ∙ ap (λ (y : ℕ). bit (y / 2) j) (with_zero x b)
    ∙ ap (λ (y : ℕ). bit y j) (digits_div (x / 2) h)
    ∙ sym (bit_suc x j)
with_other x (suc k) b zero h ne =
    bit_zero (with_bit x (suc k) b)
    ∙ ap (λ (y : ℕ). y % 2) (with_suc x k b)
    ∙ digits_mod (with_bit (x / 2) k b) (mod-lt x (zero-lt-suc 1))
    ∙ sym (bit_zero x)
with_other x (suc k) b (suc j) h ne =
    bit_suc (with_bit x (suc k) b) j
    ∙ ap (λ (y : ℕ). bit (y / 2) j) (with_suc x k b)
    ∙ ap (λ (y : ℕ). bit y j) (digits_div (with_bit (x / 2) k b) (mod-lt x (zero-lt-suc 1)))
    ∙ with_other (x / 2) k b j h (λ e. ne (ap suc e))
    ∙ sym (bit_suc x j)

-- a number that agrees with x away from k, and has b there
pub is_with : (x k b y : ℕ) → b < 2 → bit y k ≡ b → ((j : ℕ) → j ≢ k → bit y j ≡ bit x j) → y ≡ with_bit x k b
is_with x k b y h e f = bit_ext y (with_bit x k b) (λ j. go j (ℕ_discrete j k))
  where
    go : (j : ℕ) → Dec (j ≡ k) → bit y j ≡ bit (with_bit x k b) j
    go j (yes p) = subst (λ (m : ℕ). bit y m ≡ bit (with_bit x k b) m) (sym p) (e ∙ sym (with_same x k b h))
    go j (no d) = f j d ∙ sym (with_other x k b j h d)

pub with_with : (x k a b : ℕ) → a < 2 → b < 2 → with_bit (with_bit x k a) k b ≡ with_bit x k b
with_with x k a b ha hb =
    is_with x k b (with_bit (with_bit x k a) k b) hb (with_same (with_bit x k a) k b hb)
    (λ j d. with_other (with_bit x k a) k b j hb d ∙ with_other x k a j ha d)

pub with_comm : (x k m a b : ℕ) → a < 2 → b < 2 → k ≢ m → with_bit (with_bit x k a) m b ≡ with_bit (with_bit x m b) k a
with_comm x k m a b ha hb h =
    is_with (with_bit x m b) k a (with_bit (with_bit x k a) m b) ha
    (with_other (with_bit x k a) m b k hb h ∙ with_same x k a ha)
    (λ j d. go j d (ℕ_discrete j m))
  where
    go : (j : ℕ) → j ≢ k → Dec (j ≡ m) → bit (with_bit (with_bit x k a) m b) j ≡ bit (with_bit x m b) j
    go j d (yes p) =
        subst (λ (i : ℕ). bit (with_bit (with_bit x k a) m b) i ≡ bit (with_bit x m b) i) (sym p)
        (with_same (with_bit x k a) m b hb ∙ sym (with_same x m b hb))
    go j d (no q) = with_other (with_bit x k a) m b j hb q ∙ with_other x k a j ha d ∙ sym (with_other x m b j hb q)

pub with_lt : (n k x b : ℕ) → k < n → b < 2 → x < 2 ^ n → with_bit x k b < 2 ^ n
with_lt n k x b l h hx =
    below_pow n (with_bit x k b) (λ j m. with_other x k b j h (λ e. omega (arith, e)) ∙ bit_high n x j hx m)

-- ---- an index with variable k added, and without it

pub plus_with : (t k : ℕ) → bit t k ≡ 0 → t + 2 ^ k ≡ with_bit t k 1
unfolding with_bit
plus_with t k e = rw e (omega (arith, one-mul (2 ^ k)))

pub plus_lt : (n k t : ℕ) → k < n → t < 2 ^ n → bit t k ≡ 0 → t + 2 ^ k < 2 ^ n
plus_lt n k t hk ht e = subst (λ (x : ℕ). x < 2 ^ n) (sym (plus_with t k e)) (with_lt n k t 1 hk (lit< tt) ht)

pub has_le : (t k : ℕ) → bit t k ≡ 1 → 2 ^ k ≤ t
has_le t k e = ⊎_elim (λ l. absurd (omega (arith, bit_high k t k l (le_refl k)))) (λ l. l) (below_or t (2 ^ k))

-- ---- shifts

pub bit_shr : (x h j : ℕ) → bit (x / 2 ^ h) j ≡ bit x (j + h)
bit_shr x h j = ap (λ (y : ℕ). y % 2) (shr-shr x h j ∙ ap (λ (i : ℕ). x / 2 ^ i) (add_comm h j))

-- a number has the bits of what was cut to it
pub bit_cut : (n y j : ℕ) → j < n → bit (y % 2 ^ n) j ≡ bit y j
bit_cut n y j h =
    let e : n ≡ n - suc j + 1 + j = omega arith in
    ap (λ (n : ℕ). y % 2 ^ n / 2 ^ j % 2) e ∙ ap (λ (z : ℕ). z % 2) (field y (n - suc j + 1) j) ∙ mod-mod-pow (y / 2 ^ j) (n - suc j) 1

bit_shl_low : (x h j : ℕ) → j < h → bit (x * 2 ^ h) j ≡ 0
bit_shl_low x h j l =
    let e : h ≡ h - suc j + 1 + j = omega arith in
    ap (λ (n : ℕ). x * 2 ^ n / 2 ^ j % 2) e
    ∙ ap (λ (z : ℕ). z / 2 ^ j % 2) (ap (λ (z : ℕ). x * z) (pow-add 2 (h - suc j + 1) j) ∙ sym (mul_assoc x (2 ^ (h - suc j + 1)) (2 ^ j)))
    ∙ ap (λ (z : ℕ). z % 2) (shl-shr (x * 2 ^ (h - suc j + 1)) j)
    ∙ ap (λ (z : ℕ). z % 2) (ap (λ (z : ℕ). x * z) (pow-add 2 (h - suc j) 1) ∙ sym (mul_assoc x (2 ^ (h - suc j)) 2))
    ∙ even (x * 2 ^ (h - suc j))
  where
    even : (z : ℕ) → z * 2 % 2 ≡ 0
    even z = omega arith

bit_shl_high : (x h j : ℕ) → h ≤ j → bit (x * 2 ^ h) j ≡ bit x (j - h)
bit_shl_high x h j l =
    let e : j ≡ h + (j - h) = omega arith in
    ap (λ (n : ℕ). x * 2 ^ h / 2 ^ n % 2) e
    ∙ ap (λ (z : ℕ). z % 2) (sym (shr-shr (x * 2 ^ h) h (j - h)) ∙ ap (λ (z : ℕ). z / 2 ^ (j - h)) (shl-shr x h))

pub bit_shl : (x h j : ℕ) → bit (x * 2 ^ h) j ≡ cond (ltb j h) 0 (bit x (j - h))
bit_shl x h j = go (ltb j h) refl
  where
    go : (b : Bool) → ltb j h ≡ b → bit (x * 2 ^ h) j ≡ cond b 0 (bit x (j - h))
    go true e = bit_shl_low x h j (ltb-true j h e)
    go false e = bit_shl_high x h j (ltb-false j h e)

pub lt_of_shift : (n x : ℕ) → x / 2 ^ n ≡ 0 → x < 2 ^ n
lt_of_shift n x e = subst (λ (y : ℕ). x < y) (one-mul (2 ^ n)) ((div-lt_iff_lt-mul (pow_pos n)).0 (omega arith))

pub le_of_shift : (n x : ℕ) → x / 2 ^ n ≢ 0 → 2 ^ n ≤ x
le_of_shift n x ne = go (dec_le (2 ^ n) x)
  where
    go : Dec (2 ^ n ≤ x) → 2 ^ n ≤ x
    go (yes h) = h
    go (no h) = absurd (ne (div-eq_of_lt (lt_of_not-le h)))

-- a bit shifted to its place is not cut off, at any width
pub shl_bit : (k b w : ℕ) → b < 2 → k < w → (b * 2 ^ k) % 2 ^ w ≡ b * 2 ^ k
shl_bit k b w h l = shl_exact 1 k w h (omega arith)

pub shl_one : (k w : ℕ) → k < w → (1 * 2 ^ k) % 2 ^ w ≡ 2 ^ k
shl_one k w l = shl_bit k 1 w (lit< tt) l ∙ one-mul (2 ^ k)

-- ---- one bit written by `|`, `&` and `^` with 1 << k

module _ (k : ℕ) where
  one_bit : with_bit 0 k 1 ≡ 2 ^ k
  unfolding with_bit
  one_bit = let z : bit 0 k ≡ 0 = bit_high 0 0 k (lit< tt) zero-le in rw z (omega (arith, one-mul (2 ^ k)))

  pub pow_bit : bit (2 ^ k) k ≡ 1
  pow_bit = ap (λ (x : ℕ). bit x k) (sym one_bit) ∙ with_same 0 k 1 (lit< tt)

  pub pow_bit_other : (j : ℕ) → j ≢ k → bit (2 ^ k) j ≡ 0
  pow_bit_other j d = ap (λ (x : ℕ). bit x j) (sym one_bit) ∙ with_other 0 k 1 j (lit< tt) d ∙ bit_high 0 0 j (lit< tt) zero-le

pub differ_zero : (x : ℕ) → differ x 0 ≡ x
differ_zero zero = refl
differ_zero (suc x) = refl

pub differ_self : (x : ℕ) → differ x x ≡ 0
differ_self zero = refl
differ_self (suc x) = differ_self x

pub set_bit : (x k : ℕ) → bit_or x (2 ^ k) ≡ with_bit x k 1
set_bit x k = is_with x k 1 (bit_or x (2 ^ k)) (lit< tt)
    (bit_or_lem x (2 ^ k) k ∙ ap (max (bit x k)) (pow_bit k) ∙ omega (arith, bit_lt x k))
    (λ j d. bit_or_lem x (2 ^ k) j ∙ ap (max (bit x j)) (pow_bit_other k j d) ∙ max-zero (bit x j))

pub clear_bit : (x k : ℕ) → bit_xor x (bit_and x (2 ^ k)) ≡ with_bit x k 0
clear_bit x k = is_with x k 0 (bit_xor x (bit_and x (2 ^ k))) (lit< tt)
    (bit_xor_lem x (bit_and x (2 ^ k)) k ∙ ap (differ (bit x k)) (bit_and_lem x (2 ^ k) k ∙ ap (min (bit x k)) (pow_bit k) ∙ min-eq_left (omega (arith, bit_lt x k)))
    ∙ differ_self (bit x k))
    (λ j d. bit_xor_lem x (bit_and x (2 ^ k)) j ∙ ap (differ (bit x j)) (bit_and_lem x (2 ^ k) j ∙ ap (min (bit x j)) (pow_bit_other k j d) ∙ min-zero (bit x j))
    ∙ differ_zero (bit x j))

-- no bit of either
pub or_none : (x y : ℕ) → eqb (bit_or x y) 0 ≡ eqb x 0 && eqb y 0
or_none x y = same_bool (eqb (bit_or x y) 0) (eqb x 0 && eqb y 0) none_either either_none
  where
    none_either : eqb (bit_or x y) 0 ≡ true → eqb x 0 && eqb y 0 ≡ true
    none_either t =
        let e : bit_or x y ≡ 0 = eqb-true _ 0 t in
        true_both (eq-eqb x 0 (omega (arith, or_add_and x y, and_le_r x y))) (eq-eqb y 0 (omega (arith, or_add_and x y, and_le_l x y)))

    either_none : eqb x 0 && eqb y 0 ≡ true → eqb (bit_or x y) 0 ≡ true
    either_none t =
        let p = both_true (eqb x 0) (eqb y 0) t in
        eq-eqb (bit_or x y) 0 (omega (arith, or_add_and x y, eqb-true x 0 p.0, eqb-true y 0 p.1))

-- Laws of the tests, sums and lists over the numbers below a bound, and of the set bits of a number.
-- Assumes nothing.
use mathlib.Core.Path.{◌≡◌, refl, sym, ap, ap₂, ◌∙◌, subst}
use mathlib.Core.Logic.{inl, inr, ◌≢◌}
use mathlib.Core.Bool.{Bool, true, false, not, cond}
use mathlib.Core.List.Memᴰ
use mathlib.Core.List.{List, [], ◌∷◌, ◌++◌, map, Memᴰ}
use Prim.Native.Nat.{ℕ, zero, suc, ◌+◌, ◌-◌, ◌*◌, ◌/◌, ◌%◌, ◌^◌, ◌≤◌, ◌<◌, zero-le, suc-le-suc}
use native.Mathlib.Nat.{mod-lt, zero-lt-suc, zero-add, suc-add, add-zero, add-suc, add_assoc, zero-mul, suc-mul, add-mul, le_refl, le_of_suc-le-suc, not-suc-le-zero}
use native.Mathlib.Decide.{ℕ_discrete}
use native.Mathlib.Numerals.{add-one, one-add}
use native.Mathlib.Omega.{arith}
use borrow.Author.Tests.{eqb-true, eq-eqb}
use lib.Arith.{lt-one}
use lib.Count.{ones, ones_step, count_trailing_zeros, under}
use lib.Dec.{eqb}
use lib.ListN.{length, get_or, set, length-map, length-set}
use lib.Seq.{ext_get_or, get_or-set_same, get_or-set_other}
use Rattle.bits.specs.Bits.{bit}
use Rattle.bits.specs.Below.{all_below, those, Ascending, sum_below, list_below}
use Rattle.bits.specs.Sums.{tally, one_if}
use Rattle.bits.proofs.Bools.{same_bool, all_at, all_true}
use Rattle.bits.proofs.Bits.{bit_zero, bit_suc, half_lt, bit_ext_below}
use Rattle.bits.proofs.Sums.{tally_all, map_same}

-- two numbers below 2 ^ n are equal where their bits are
pub eqb_bits : (n a b : ℕ) → a < 2 ^ n → b < 2 ^ n → all_below n (λ k. eqb (bit a k) (bit b k)) ≡ eqb a b
eqb_bits n a b ha hb =
    same_bool _ _
    (λ e. eq-eqb a b (bit_ext_below n a b ha hb (λ k l. eqb-true (bit a k) (bit b k) (all_at n _ e k l))))
    (λ e. all_true n _ (λ k l. eq-eqb (bit a k) (bit b k) (ap (λ (x : ℕ). bit x k) (eqb-true a b e))))

-- ---- those of the numbers from k on that pass a test

pub those_bounds : (f : ℕ → Bool) (m k j : ℕ) → Memᴰ j (those f m k) → (k ≤ j) × (j < k + m) × (f j ≡ true)
unfolding those
those_bounds f zero k j h = absurd (Memᴰ.not-nil h)
those_bounds f (suc m) k j h = go (f k) refl (those_bounds f m (suc k) j) h
  where
    wider : (suc k ≤ j) × (j < suc k + m) × (f j ≡ true) → (k ≤ j) × (j < k + suc m) × (f j ≡ true)
    wider r = (omega arith, omega arith, r.2)

    go : (b : Bool) → f k ≡ b → (Memᴰ j (those f m (suc k)) → (suc k ≤ j) × (j < suc k + m) × (f j ≡ true))
        → Memᴰ j (cond b (k ∷ those f m (suc k)) (those f m (suc k))) → (k ≤ j) × (j < k + suc m) × (f j ≡ true)
    go true e ih h = elim (Memᴰ.cases_cons h) [ inl p ↦ (omega arith, omega arith, ap f p ∙ e) | inr t ↦ wider (ih t) ]
    go false e ih h = wider (ih h)

pub those_all : (f : ℕ → Bool) (m k j : ℕ) → k ≤ j → j < k + m → f j ≡ true → Memᴰ j (those f m k)
unfolding those
those_all f zero k j l u e = absurd (omega arith)
those_all f (suc m) k j l u e = elim (ℕ_discrete j k) [ yes p ↦ here p | no d ↦ later (f k) (those_all f m (suc k) j (omega arith) (omega arith) e) ]
  where
    here : j ≡ k → Memᴰ j (cond (f k) (k ∷ those f m (suc k)) (those f m (suc k)))
    here p = subst (λ (b : Bool). Memᴰ j (cond b (k ∷ those f m (suc k)) (those f m (suc k)))) (sym e ∙ ap f p) (Memᴰ.head p)

    later : (b : Bool) → Memᴰ j (those f m (suc k)) → Memᴰ j (cond b (k ∷ those f m (suc k)) (those f m (suc k)))
    later true t = Memᴰ.tail t
    later false t = t

-- they ascend
pub those_ascend : (f : ℕ → Bool) (m k p q : ℕ) (l : List ℕ) → those f m k ≡ p ∷ q ∷ l → p < q
unfolding those
those_ascend f zero k p q l e = let z : ◌≡◌ {A = ℕ} 0 1 = cc in omega arith
those_ascend f (suc m) k p q l e = go (f k) (those_ascend f m (suc k) p q l) e
  where
    go : (b : Bool) → (those f m (suc k) ≡ p ∷ q ∷ l → p < q) → cond b (k ∷ those f m (suc k)) (those f m (suc k)) ≡ p ∷ q ∷ l → p < q
    go false ih e = ih e
    go true ih e =
        let tail : those f m (suc k) ≡ q ∷ l = cc in
        let head : k ≡ p = cc in
        let bounds = those_bounds f m (suc k) q (subst (λ (t : List ℕ). Memᴰ q t) (sym tail) (Memᴰ.head refl)) in
        omega (arith, head, bounds.0)

ascending_from : (k : ℕ) (l : List ℕ) → Ascending (suc k) l → Ascending k l
ascending_from k [] a = tt
ascending_from k (x ∷ l) a = (omega (arith, a.0), a.1)

pub those_ascending : (f : ℕ → Bool) (m k : ℕ) → Ascending k (those f m k)
unfolding those
those_ascending f zero k = tt
those_ascending f (suc m) k = go (f k) (those_ascending f m (suc k))
  where
    go : (b : Bool) → Ascending (suc k) (those f m (suc k)) → Ascending k (cond b (k ∷ those f m (suc k)) (those f m (suc k)))
    go true a = (le_refl k, a)
    go false a = ascending_from k (those f m (suc k)) a

-- two tests that agree where they are made
pub those_same : (f g : ℕ → Bool) (m k : ℕ) → ((s : ℕ) → k ≤ s → s < k + m → f s ≡ g s) → those f m k ≡ those g m k
unfolding those
those_same f g zero k h = refl
those_same f g (suc m) k h = ap₂ (λ (b : Bool) (l : List ℕ). cond b (k ∷ l) l) (h k (le_refl k) (omega arith)) (those_same f g m (suc k) (λ s g l. h s (omega arith) (omega arith)))

pub those_cong : (f g : ℕ → Bool) → ((k : ℕ) → f k ≡ g k) → (m k : ℕ) → those f m k ≡ those g m k
those_cong f g h m k = those_same f g m k (λ s l u. h s)

-- one more number is tried: it comes last
abbrev pub only_if : Bool → ℕ → List ℕ
only_if b k = cond b (k ∷ []) []

pub those_more : (f : ℕ → Bool) (m k : ℕ) → those f (suc m) k ≡ those f m k ++ only_if (f (k + m)) (k + m)
unfolding those
those_more f zero k = ap (λ (x : ℕ). only_if (f x) x) (sym (add-zero k))
those_more f (suc m) k =
    let at : suc k + m ≡ k + suc m = suc-add k m ∙ sym (add-suc k m) in
    go (f k) (those f (suc m) (suc k)) (those f m (suc k)) (only_if (f (k + suc m)) (k + suc m))
    (those_more f m (suc k) ∙ ap (λ (x : ℕ). those f m (suc k) ++ only_if (f x) x) at)
  where
    go : (b : Bool) (l r z : List ℕ) → l ≡ r ++ z → cond b (k ∷ l) l ≡ cond b (k ∷ r) r ++ z
    go true l r z e = ap (λ (t : List ℕ). k ∷ t) e
    go false l r z e = e

-- from the front of those below m, one by one
module _ (f : ℕ → Bool) (m k : ℕ) where
  -- the next one is one of them, or not
  those_on : k < m → those f (m - k) k ≡ cond (f k) (k ∷ those f (m - (k + 1)) (k + 1)) (those f (m - (k + 1)) (k + 1))
  unfolding those
  those_on h =
      let e : m - k ≡ suc (m - (k + 1)) = omega arith in
      ap (λ (j : ℕ). those f j k) e ∙ ap (λ (j : ℕ). cond (f k) (k ∷ those f (m - (k + 1)) j) (those f (m - (k + 1)) j)) (sym (add-one k))

  pub those_next : k < m → f k ≡ true → those f (m - k) k ≡ k ∷ those f (m - (k + 1)) (k + 1)
  those_next h e = those_on h ∙ ap (λ (b : Bool). cond b (k ∷ those f (m - (k + 1)) (k + 1)) (those f (m - (k + 1)) (k + 1))) e

  pub those_skip : k < m → f k ≡ false → those f (m - k) k ≡ those f (m - (k + 1)) (k + 1)
  those_skip h e = those_on h ∙ ap (λ (b : Bool). cond b (k ∷ those f (m - (k + 1)) (k + 1)) (those f (m - (k + 1)) (k + 1))) e

  pub those_end : m ≤ k → those f (m - k) k ≡ []
  unfolding those
  those_end h = let e : m - k ≡ 0 = omega arith in ap (λ (j : ℕ). those f j k) e

-- ---- the set bits of a number, ascending: how many they are, and the first of them

abbrev pub set_bits : ℕ → ℕ → List ℕ
set_bits n x = those (λ k. not (eqb (bit x k) 0)) n 0

those_shift : (f : ℕ → Bool) (m k : ℕ) → those f m (suc k) ≡ map suc (those (λ j. f (suc j)) m k)
unfolding those
those_shift f zero k = refl
those_shift f (suc m) k = go (f (suc k)) (those_shift f m (suc k))
  where
    go : (b : Bool) → those f m (suc (suc k)) ≡ map suc (those (λ j. f (suc j)) m (suc k))
        → cond b (suc k ∷ those f m (suc (suc k))) (those f m (suc (suc k)))
        ≡ map suc (cond b (k ∷ those (λ j. f (suc j)) m (suc k)) (those (λ j. f (suc j)) m (suc k)))
    go true e = ap (λ (l : List ℕ). suc k ∷ l) e
    go false e = e

set_bits_suc : (n x : ℕ) → set_bits (suc n) x ≡ cond (not (eqb (x % 2) 0)) (0 ∷ map suc (set_bits n (x / 2))) (map suc (set_bits n (x / 2)))
unfolding those
set_bits_suc n x =
    ap₂ (λ (y : ℕ) (l : List ℕ). cond (not (eqb y 0)) (0 ∷ l) l) (bit_zero x)
    (those_shift (λ k. not (eqb (bit x k) 0)) n 0
    ∙ ap (map suc) (those_cong (λ k. not (eqb (bit x (suc k)) 0)) (λ k. not (eqb (bit (x / 2) k) 0)) (λ k. ap (λ (y : ℕ). not (eqb y 0)) (bit_suc x k)) n 0))

pub count_set_bits : (n x : ℕ) → x < 2 ^ n → length (set_bits n x) ≡ ones x
unfolding those ones
count_set_bits zero x h = ap ones (sym (lt-one h))
count_set_bits (suc n) x h =
    ap length (set_bits_suc n x)
    ∙ go (x % 2) (mod-lt x (zero-lt-suc 1)) (set_bits n (x / 2))
    ∙ ap (λ (y : ℕ). x % 2 + y) (count_set_bits n (x / 2) (half_lt n x h))
    ∙ sym (ones_step x)
  where
    go : (y : ℕ) → y < 2 → (l : List ℕ) → length (cond (not (eqb y 0)) (0 ∷ map suc l) (map suc l)) ≡ y + length l
    go zero h l = omega (arith, length-map l suc)
    go (suc zero) h l = omega (arith, length-map l suc)
    go (suc (suc y)) h l = absurd (omega arith)

-- two numbers whose bits agree but at v: the one has at most one set bit more
pub ones_near : (n x y v : ℕ) → x < 2 ^ n → y < 2 ^ n → ((k : ℕ) → k < n → k ≢ v → bit x k ≡ bit y k) → ones x ≤ ones y + 1
ones_near zero x y v hx hy e = omega (arith, ap ones (lt-one hx ∙ sym (lt-one hy)))
ones_near (suc n) x y zero hx hy e =
    let half : x / 2 ≡ y / 2 = bit_ext_below n (x / 2) (y / 2) (half_lt n x hx) (half_lt n y hy)
    (λ k l. sym (bit_suc x k) ∙ e (suc k) (suc-le-suc l) (λ z. omega (arith, z)) ∙ bit_suc y k) in
    omega (arith, ones_step x, ones_step y, ap ones half, mod-lt x (zero-lt-suc 1))
ones_near (suc n) x y (suc v) hx hy e =
    let low : x % 2 ≡ y % 2 = sym (bit_zero x) ∙ e 0 (zero-lt-suc n) (λ z. omega (arith, z)) ∙ bit_zero y in
    let rest : ones (x / 2) ≤ ones (y / 2) + 1 = ones_near n (x / 2) (y / 2) v (half_lt n x hx) (half_lt n y hy)
    (λ k l d. sym (bit_suc x k) ∙ e (suc k) (suc-le-suc l) (λ z. d (omega (arith, z))) ∙ bit_suc y k) in
    omega (arith, ones_step x, ones_step y, low, rest)

-- the first element, or d where there is none
abbrev pub head_or : ℕ → List ℕ → ℕ
head_or d [] = d
head_or d (x ∷ l) = x

-- the lowest set bit, or n where none is set
pub first_set_bit : (n x : ℕ) → head_or n (set_bits n x) ≡ count_trailing_zeros n x
unfolding those count_trailing_zeros
first_set_bit zero x = refl
first_set_bit (suc n) x =
    ap (head_or (suc n)) (set_bits_suc n x) ∙ go (x % 2) (mod-lt x (zero-lt-suc 1)) (set_bits n (x / 2)) ∙ ap (under (x % 2)) (first_set_bit n (x / 2))
  where
    go : (y : ℕ) → y < 2 → (l : List ℕ) → head_or (suc n) (cond (not (eqb y 0)) (0 ∷ map suc l) (map suc l)) ≡ under y (head_or n l)
    go zero h [] = refl
    go zero h (z ∷ l) = refl
    go (suc zero) h l = refl
    go (suc (suc y)) h l = absurd (omega arith)

-- how many places of a list have an element that passes a test
pub those_tally : {A : Type 0} (w : A → Bool) (d : A) (l : List A) → length (those (λ i. w (get_or l i d)) (length l) 0) ≡ tally w l
unfolding those tally
those_tally w d [] = refl
those_tally w d (x ∷ l) =
    let rest : length (those (λ i. w (get_or (x ∷ l) i d)) (length l) 1) ≡ tally w l =
    ap length (those_shift (λ i. w (get_or (x ∷ l) i d)) (length l) 0) ∙ length-map (those (λ i. w (get_or l i d)) (length l) 0) suc ∙ those_tally w d l in
    go (w x) (those (λ i. w (get_or (x ∷ l) i d)) (length l) 1) ∙ ap (λ (n : ℕ). one_if (w x) + n) rest
  where
    go : (b : Bool) (r : List ℕ) → length (cond b (0 ∷ r) r) ≡ one_if b + length r
    go true r = sym (one-add (length r))
    go false r = sym (zero-add (length r))

-- ---- sums below a number

pub sum_cong : (m : ℕ) (f g : ℕ → ℕ) → ((t : ℕ) → t < m → f t ≡ g t) → sum_below m f ≡ sum_below m g
unfolding sum_below
sum_cong zero f g h = refl
sum_cong (suc m) f g h = ap₂ (λ (x y : ℕ). x + y) (sum_cong m f g (λ t l. h t (omega arith))) (h m (le_refl (suc m)))

pub sum_parts : (a b : ℕ) (f : ℕ → ℕ) → sum_below (a + b) f ≡ sum_below a f + sum_below b (λ t. f (a + t))
unfolding sum_below
sum_parts a zero f = rw (add-zero a, add-zero (sum_below a f))
sum_parts a (suc b) f =
    ap (λ (x : ℕ). sum_below x f) (add-suc a b) ∙ ap (λ (x : ℕ). x + f (a + b)) (sum_parts a b f)
    ∙ add_assoc (sum_below a f) (sum_below b (λ t. f (a + t))) (f (a + b))

pub sum_plus : (m : ℕ) (f g : ℕ → ℕ) → sum_below m (λ t. f t + g t) ≡ sum_below m f + sum_below m g
unfolding sum_below
sum_plus zero f g = refl
sum_plus (suc m) f g = omega (arith, sum_plus m f g)

pub sum_times : (m : ℕ) (f : ℕ → ℕ) (c : ℕ) → sum_below m f * c ≡ sum_below m (λ t. f t * c)
unfolding sum_below
sum_times zero f c = zero-mul c
sum_times (suc m) f c = add-mul (sum_below m f) (f m) c ∙ ap (λ (x : ℕ). x + f m * c) (sum_times m f c)

pub sum_parity : (m : ℕ) (f g : ℕ → ℕ) → ((t : ℕ) → f t % 2 ≡ g t % 2) → sum_below m f % 2 ≡ sum_below m g % 2
unfolding sum_below
sum_parity zero f g h = refl
sum_parity (suc m) f g h = omega (arith, sum_parity m f g h, h m)

pub sum_none : (m : ℕ) (f : ℕ → ℕ) → ((t : ℕ) → t < m → f t ≡ 0) → sum_below m f ≡ 0
unfolding sum_below
sum_none zero f h = refl
sum_none (suc m) f h = omega (arith, sum_none m f (λ t l. h t (omega arith)), h m (le_refl (suc m)))

-- sums compared: term by term, over more terms, and with a bound of each term
pub sum_each : (m : ℕ) (f g : ℕ → ℕ) → ((t : ℕ) → t < m → f t ≤ g t) → sum_below m f ≤ sum_below m g
unfolding sum_below
sum_each zero f g h = zero-le
sum_each (suc m) f g h = omega (arith, sum_each m f g (λ t l. h t (omega arith)), h m (le_refl (suc m)))

pub sum_more : (m k : ℕ) (f : ℕ → ℕ) → m ≤ k → sum_below m f ≤ sum_below k f
sum_more m k f h =
    let e : m + (k - m) ≡ k = omega arith in
    let p : sum_below (m + (k - m)) f ≡ sum_below m f + sum_below (k - m) (λ t. f (m + t)) = sum_parts m (k - m) f in
    subst (λ (x : ℕ). sum_below m f ≤ sum_below x f) e (omega (arith, p))

pub sum_most : (m c : ℕ) (f : ℕ → ℕ) → ((t : ℕ) → t < m → f t ≤ c) → sum_below m f ≤ m * c
unfolding sum_below
sum_most zero c f h = zero-le
sum_most (suc m) c f h = omega (arith, sum_most m c f (λ t l. h t (omega arith)), h m (le_refl (suc m)), suc-mul m c)

-- ---- a list by its elements, of any kind

module _ {A : Type 0} where
  pub length_list_below : (m : ℕ) (f : ℕ → A) → length (list_below m f) ≡ m
  unfolding list_below
  length_list_below zero f = refl
  length_list_below (suc m) f = ap suc (length_list_below m (λ k. f (suc k)))

  pub get_or_list_below : (m : ℕ) (f : ℕ → A) (i : ℕ) (d : A) → i < m → get_or (list_below m f) i d ≡ f i
  unfolding list_below
  get_or_list_below zero f i d h = absurd (not-suc-le-zero h)
  get_or_list_below (suc m) f zero d h = refl
  get_or_list_below (suc m) f (suc i) d h = get_or_list_below m (λ k. f (suc k)) i d (le_of_suc-le-suc h)

  -- a list is a list_below where it is as long and agrees at each index
  pub is_list_below : (d : A) (l : List A) (m : ℕ) (f : ℕ → A) → length l ≡ m → ((i : ℕ) → i < m → get_or l i d ≡ f i) → l ≡ list_below m f
  is_list_below d l m f e h =
      ext_get_or d l (list_below m f) (e ∙ sym (length_list_below m f))
      (λ i b. let k : i < m = subst (λ (k : ℕ). i < k) e b in h i k ∙ sym (get_or_list_below m f i d k))

  pub list_below_cong : (m : ℕ) (f g : ℕ → A) → ((i : ℕ) → i < m → f i ≡ g i) → list_below m f ≡ list_below m g
  unfolding list_below
  list_below_cong zero f g h = refl
  list_below_cong (suc m) f g h =
      ap₂ (λ (x : A) (l : List A). x ∷ l) (h 0 (zero-lt-suc m)) (list_below_cong m (λ k. f (suc k)) (λ k. g (suc k)) (λ i b. h (suc i) (suc-le-suc b)))

  -- with one element replaced
  pub set_list_below : (m : ℕ) (f g : ℕ → A) (i : ℕ) (x : A) → i < m → ((j : ℕ) → j < m → j ≢ i → f j ≡ g j) → x ≡ g i → set (list_below m f) i x ≡ list_below m g
  set_list_below m f g i x h other e =
      let long : length (list_below m f) ≡ m = length_list_below m f in
      is_list_below x (set (list_below m f) i x) m g (length-set (list_below m f) i x ∙ long) (λ j l. elim (ℕ_discrete j i) [
        | yes p ↦ ap (λ (k : ℕ). get_or (set (list_below m f) i x) k x) p ∙ get_or-set_same (list_below m f) i x x (subst (λ (k : ℕ). i < k) (sym long) h) ∙ e ∙ ap g (sym p)
        | no d ↦ get_or-set_other (list_below m f) i j x x d ∙ get_or_list_below m f j x l ∙ other j l d
      ])

  pub list_below_more : (m : ℕ) (f : ℕ → A) → list_below (suc m) f ≡ list_below m f ++ (f m ∷ [])
  unfolding list_below
  list_below_more zero f = refl
  list_below_more (suc m) f = ap (λ (l : List A). f 0 ∷ l) (list_below_more m (λ k. f (suc k)))

  pub list_below_parts : (a m : ℕ) (f : ℕ → A) → list_below (a + m) f ≡ list_below a f ++ list_below m (λ j. f (a + j))
  unfolding list_below
  list_below_parts zero m f = ap (λ (k : ℕ). list_below k f) (zero-add m) ∙ list_below_cong m f (λ j. f (0 + j)) (λ j b. ap f (sym (zero-add j)))
  list_below_parts (suc a) m f =
      ap (λ (k : ℕ). list_below k f) (suc-add a m)
      ∙ ap (λ (l : List A). f 0 ∷ l) (list_below_parts a m (λ k. f (suc k))
      ∙ ap (λ (l : List A). list_below a (λ k. f (suc k)) ++ l) (list_below_cong m (λ j. f (suc (a + j))) (λ j. f (suc a + j)) (λ j b. ap f (sym (suc-add a j)))))

-- ---- a tally of those that pass a test is a sum

pub tally_step : {A : Type 0} (w : A → Bool) (h : ℕ → A) (b : Bool) (k : ℕ) (l : List ℕ)
    → tally w (map h (cond b (k ∷ l) l)) ≡ cond b (one_if (w (h k))) 0 + tally w (map h l)
unfolding tally
tally_step w h true k l = refl
tally_step w h false k l = sym (zero-add (tally w (map h l)))

pub tally_those : {A : Type 0} (w : A → Bool) (h : ℕ → A) (f : ℕ → Bool) (m k : ℕ)
    → tally w (map h (those f m k)) ≡ sum_below m (λ t. cond (f (k + t)) (one_if (w (h (k + t)))) 0)
unfolding those tally sum_below
tally_those w h f zero k = refl
tally_those w h f (suc m) k =
    let F : ℕ → ℕ = λ t. cond (f t) (one_if (w (h t))) 0 in
    let G : ℕ → ℕ = λ t. F (k + t) in
    tally_step w h (f k) k (those f m (suc k))
    ∙ ap (λ (x : ℕ). F k + x)
    (tally_those w h f m (suc k)
    ∙ sum_cong m (λ t. F (suc k + t)) (λ t. G (1 + t)) (λ t b. let e : suc k + t ≡ k + (1 + t) = omega arith in ap F e))
    ∙ sym (ap (λ (x : ℕ). sum_below x G) (sym (one-add m)) ∙ sum_parts 1 m G
    ∙ ap (λ (x : ℕ). x + sum_below m (λ t. G (1 + t))) (zero-add (G 0) ∙ ap F (add-zero k)))

-- how many they are
pub those_count : (f : ℕ → Bool) (m k : ℕ) → length (those f m k) ≡ sum_below m (λ t. one_if (f (k + t)))
those_count f m k =
    sym (tally_all (those f m k)) ∙ ap (tally (λ j. true)) (map_same (those f m k)) ∙ tally_those (λ j. true) (λ j. j) f m k
    ∙ sum_cong m _ _ (λ t l. one (f (k + t)))
  where
    one : (b : Bool) → cond b 1 0 ≡ one_if b
    one true = refl
    one false = refl

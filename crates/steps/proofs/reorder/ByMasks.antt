-- The codes at one variable moved by an order, in one cube: three codes have two bits, and each new bit is a sum of the old ones, taken by masks.
-- Assumes nothing.
use mathlib.Core.Path.{◌≡◌, refl, sym, ap, ap₂, ◌∙◌, subst}
use mathlib.Core.Logic.{◌≢◌}
use mathlib.Core.Bool.{Bool, true, cond, ◌&&◌}
use Prim.Native.Nat.{ℕ, zero, suc, ◌/◌, ◌%◌, ◌^◌, ◌≤◌, ◌<◌, min, zero-le}
use native.Mathlib.Nat.{min-zero}
use native.Mathlib.Omega.{arith}
use lib.Bits.{bit_and, bit_xor, differ, and_shr, xor_shr, and_mod, xor_mod}
use lib.Dec.{lit<, eqb, ltb, leb}
use borrow.Author.Tests.{eqb-true, le-leb}
use Rattle.bits.specs.Bits.{bit, with_bit}
use Rattle.bits.specs.Below.{all_below}
use Rattle.bits.proofs.Bools.{both_true, all_at₂, all_at₃, one_lt}
use Rattle.bits.proofs.Bits.{bit_lt, bit_high, bit_and_lem, bit_xor_lem, differ_lt, differ_zero, with_same, with_other, with_lt, is_with, pow_bit, pow_bit_other}
use Rattle.cube.specs.declared.Cube.{Cube}
use Rattle.cube.specs.Cubes.{code_of, code, seen_bit, value_bit, put, with_code, one, Good}
use Rattle.cube.specs.Lists.{most_variables}
use Rattle.cube.proofs.Codes.{code_lt, good_seen, good_value, with_put}
use Rattle.orders.specs.Orders.{code_after}
use Rattle.steps.specs.declared.reorder.Masks.{Masks}
use Rattle.steps.specs.Steps.{reordered}
use Rattle.steps.specs.Changes.{literal_after, half_size, word_of, halves, changed, masks_at, by_masks}

-- ---- one bit

-- the one of three numbers that a code picks
pick : ℕ → ℕ → ℕ → ℕ → ℕ
pick zero x y z = x
pick (suc zero) x y z = y
pick (suc (suc k)) x y z = z

-- a function of a code is picked from its three values
pick_code : (f : ℕ → ℕ) (k : ℕ) → k < 3 → pick k (f 0) (f 1) (f 2) ≡ f k
unfolding pick
pick_code f zero h = refl
pick_code f (suc zero) h = refl
pick_code f (suc (suc zero)) h = refl
pick_code f (suc (suc (suc k))) h = absurd (omega arith)

-- a bit p, changed by the sum of itself and a, the other bit q and b, and c
abbrev new_bit : ℕ → ℕ → ℕ → ℕ → ℕ → ℕ
new_bit p q a b c = differ (differ (differ p (min p a)) (min q b)) c

-- the seen bit s and the value bit w of a code become those that its code_after has, computed over all bits
bits_test : ℕ → ℕ → ℕ → ℕ → ℕ → Bool
bits_test s w x y z =
    cond (leb w s)
    (eqb (new_bit s w (differ (differ 1 x) z) (differ x y) z) (pick (code_of s w) x y z)
    && eqb (new_bit w s (differ (differ 1 x) y) (differ x z) z) (pick (code_of s w) x y z))
    true

module _ (s w x y z : ℕ) (hs : s < 2) (l : w ≤ s) (hx : x < 2) (hy : y < 2) (hz : z < 2) where
  tested : (new_bit s w (differ (differ 1 x) z) (differ x y) z ≡ pick (code_of s w) x y z) × (new_bit w s (differ (differ 1 x) y) (differ x z) z ≡ pick (code_of s w) x y z)
  unfolding pick bits_test
  tested =
      let t : bits_test s w x y z ≡ true =
      all_at₃ 2 2 2 (bits_test s w)
      (all_at₂ 2 2 (λ s w. all_below 2 (λ x. all_below 2 (λ y. all_below 2 (bits_test s w x y)))) refl s w hs (omega arith)) x y z hx hy hz in
      let both = both_true _ _ (rw (le-leb w s l) at t) in
      (eqb-true _ _ both.0, eqb-true _ _ both.1)

-- ---- numbers by masks

-- what goes through `&` and `^` goes through that
changed_through : (h : ℕ → ℕ) → ((a b : ℕ) → h (bit_and a b) ≡ bit_and (h a) (h b)) → ((a b : ℕ) → h (bit_xor a b) ≡ bit_xor (h a) (h b))
    → (x a y b c : ℕ) → h (changed x a y b c) ≡ changed (h x) (h a) (h y) (h b) (h c)
changed_through h and xor x a y b c =
    xor (bit_xor (bit_xor x (bit_and x a)) (bit_and y b)) c
    ∙ ap (λ (t : ℕ). bit_xor t (h c))
    (xor (bit_xor x (bit_and x a)) (bit_and y b) ∙ ap₂ bit_xor (xor x (bit_and x a) ∙ ap (bit_xor (h x)) (and x a)) (and y b))

changed_bit : (x a y b c k : ℕ) → bit (changed x a y b c) k ≡ new_bit (bit x k) (bit y k) (bit a k) (bit b k) (bit c k)
changed_bit x a y b c k =
    bit_xor_lem (bit_xor (bit_xor x (bit_and x a)) (bit_and y b)) c k
    ∙ ap (λ (t : ℕ). differ t (bit c k))
    (bit_xor_lem (bit_xor x (bit_and x a)) (bit_and y b) k
    ∙ ap₂ differ (bit_xor_lem x (bit_and x a) k ∙ ap (differ (bit x k)) (bit_and_lem x a k)) (bit_and_lem y b k))

module _ (v : ℕ) where
  -- the number with bit v alone, where it is set
  abbrev flag : ℕ → ℕ
  flag a = with_bit 0 v a

  flag_same : (a : ℕ) → a < 2 → bit (flag a) v ≡ a
  flag_same a h = with_same 0 v a h

  flag_other : (a k : ℕ) → a < 2 → k ≢ v → bit (flag a) k ≡ 0
  flag_other a k h d = with_other 0 v a k h d ∙ bit_high 0 0 k (lit< tt) zero-le

  flag_one : 2 ^ v ≡ flag 1
  flag_one = is_with 0 v 1 (2 ^ v) (lit< tt) (pow_bit v) (λ k d. pow_bit_other v k d ∙ sym (bit_high 0 0 k (lit< tt) zero-le))

  flag_xor : (a b : ℕ) → a < 2 → b < 2 → bit_xor (flag a) (flag b) ≡ flag (differ a b)
  flag_xor a b ha hb =
      is_with 0 v (differ a b) (bit_xor (flag a) (flag b)) (differ_lt a b ha hb) (bit_xor_lem (flag a) (flag b) v ∙ ap₂ differ (flag_same a ha) (flag_same b hb))
      (λ k d. bit_xor_lem (flag a) (flag b) k ∙ ap₂ differ (flag_other a k ha d) (flag_other b k hb d) ∙ sym (bit_high 0 0 k (lit< tt) zero-le))

  -- masks of bit v alone change that bit alone
  changed_flags : (x y a b c : ℕ) → a < 2 → b < 2 → c < 2 → changed x (flag a) y (flag b) (flag c) ≡ with_bit x v (new_bit (bit x v) (bit y v) a b c)
  changed_flags x y a b c ha hb hc =
      is_with x v (bit z v) z (bit_lt z v) refl
      (λ k d.
      changed_bit x (flag a) y (flag b) (flag c) k
      ∙ (λ t. new_bit (bit x k) (bit y k) (flag_other a k ha d t) (flag_other b k hb d t) (flag_other c k hc d t))
      ∙ (λ t. differ (differ (differ (bit x k) (min-zero (bit x k) t)) (min-zero (bit y k) t)) 0)
      ∙ differ_zero (differ (differ (bit x k) 0) 0) ∙ differ_zero (differ (bit x k) 0) ∙ differ_zero (bit x k))
      ∙ ap (with_bit x v)
      (changed_bit x (flag a) y (flag b) (flag c) v
      ∙ (λ t. new_bit (bit x v) (bit y v) (flag_same a ha t) (flag_same b hb t) (flag_same c hc t)))
    where
      z : ℕ
      z = changed x (flag a) y (flag b) (flag c)

-- ---- two masks as one number

abbrev pair : ℕ → ℕ → ℕ
pair low high = word_of (record { seen = low; value = high })

module _ (low high : ℕ) (h : low < half_size) where
  pair_low : pair low high % half_size ≡ low
  pair_low = omega arith

  pair_high : pair low high / half_size ≡ high
  pair_high = omega arith

-- the cube of a cube's number is that cube
pub halves_word : (c : Cube) → Good most_variables c → halves (word_of c) ≡ c
halves_word c g =
    let low : c.seen < half_size = good_seen most_variables c g in
    λ t. record { seen = pair_low c.seen c.value low t; value = pair_high c.seen c.value low t }

-- ---- a cube by masks

-- one mask s, with the other w: f has a bit for each code, and i the masks of them
module _ (v : ℕ) (l : v < most_variables) (f : ℕ → ℕ) (f_lt : (x : ℕ) → f x < 2) (i : ℕ → ℕ) (flags : (x : ℕ) → i x ≡ flag v (f x)) (j k : ℕ) where
  differ_flags : (m n a b : ℕ) → a < 2 → b < 2 → m ≡ flag v a → n ≡ flag v b → bit_xor m n ≡ flag v (differ a b)
  differ_flags m n a b ha hb ea eb = ap₂ bit_xor ea eb ∙ flag_xor v a b ha hb

  flag_lt : (m a : ℕ) → a < 2 → m ≡ flag v a → m < half_size
  flag_lt m a h e = subst (λ (t : ℕ). t < half_size) (sym e) (with_lt most_variables v 0 a l h (lit< tt))

  from_lt : differ 1 (f 0) < 2
  from_lt = differ_lt 1 (f 0) (lit< tt) (f_lt 0)

  own_lt : differ (differ 1 (f 0)) (f k) < 2
  own_lt = differ_lt (differ 1 (f 0)) (f k) from_lt (f_lt k)

  own_is : bit_xor (bit_xor (2 ^ v) (i 0)) (i k) ≡ flag v (differ (differ 1 (f 0)) (f k))
  own_is = differ_flags (bit_xor (2 ^ v) (i 0)) (i k) (differ 1 (f 0)) (f k) from_lt (f_lt k) (differ_flags (2 ^ v) (i 0) 1 (f 0) (lit< tt) (f_lt 0) (flag_one v) (flags 0)) (flags k)

  other_lt : differ (f 0) (f j) < 2
  other_lt = differ_lt (f 0) (f j) (f_lt 0) (f_lt j)

  other_is : bit_xor (i 0) (i j) ≡ flag v (differ (f 0) (f j))
  other_is = differ_flags (i 0) (i j) (f 0) (f j) (f_lt 0) (f_lt j) (flags 0) (flags j)

  mask_changed : (s w : ℕ) → changed s (bit_xor (bit_xor (2 ^ v) (i 0)) (i k)) w (bit_xor (i 0) (i j)) (i 2)
      ≡ with_bit s v (new_bit (bit s v) (bit w v) (differ (differ 1 (f 0)) (f k)) (differ (f 0) (f j)) (f 2))
  mask_changed s w = (λ t. changed s (own_is t) w (other_is t) (flags 2 t)) ∙ changed_flags v s w _ _ _ own_lt other_lt (f_lt 2)

  own_fits : bit_xor (bit_xor (2 ^ v) (i 0)) (i k) < half_size
  own_fits = flag_lt _ _ own_lt own_is

  other_fits : bit_xor (i 0) (i j) < half_size
  other_fits = flag_lt _ _ other_lt other_is

  always_fits : i 2 < half_size
  always_fits = flag_lt _ _ (f_lt 2) (flags 2)

pub recoded_is : (k : Masks) (c : Cube) → Good most_variables c → (v o : ℕ) → v < most_variables → k ≡ masks_at v o → by_masks k c ≡ reordered v o c
unfolding masks_at by_masks reordered put code
recoded_is k c g v o l e = ap (λ (t : Masks). by_masks t c) e ∙ (λ t. record { seen = seen_is t; value = value_is t })
  where
    s : ℕ
    s = c.seen

    w : ℕ
    w = c.value

    hs : s < half_size
    hs = good_seen most_variables c g

    hw : w < half_size
    hw = good_value most_variables c g

    images : (x : ℕ) → literal_after v o x ≡ put one v (code_after o x)
    images x = with_put one v (code_after o x) (omega arith)

    seen_of : ℕ → ℕ
    seen_of x = seen_bit (code_after o x)

    value_of : ℕ → ℕ
    value_of x = value_bit (code_after o x)

    seen_lt : (x : ℕ) → seen_of x < 2
    seen_lt x = one_lt (ltb (code_after o x) 2)

    value_lt : (x : ℕ) → value_of x < 2
    value_lt x = one_lt (eqb (code_after o x) 1)

    seen_at : ℕ → ℕ
    seen_at x = (literal_after v o x).seen

    value_at : ℕ → ℕ
    value_at x = (literal_after v o x).value

    seen_flags : (x : ℕ) → seen_at x ≡ flag v (seen_of x)
    seen_flags x = ap (λ (t : Cube). t.seen) (images x)

    own_seen : ℕ
    own_seen = bit_xor (bit_xor (2 ^ v) (seen_at 0)) (seen_at 2)

    own_value : ℕ
    own_value = bit_xor (bit_xor (2 ^ v) (value_at 0)) (value_at 1)

    other_seen : ℕ
    other_seen = bit_xor (seen_at 0) (seen_at 1)

    other_value : ℕ
    other_value = bit_xor (value_at 0) (value_at 2)

    own_low : own_seen < half_size
    own_low = own_fits v l seen_of seen_lt seen_at seen_flags 1 2

    other_low : other_seen < half_size
    other_low = other_fits v l seen_of seen_lt seen_at seen_flags 1 2

    always_low : seen_at 2 < half_size
    always_low = always_fits v l seen_of seen_lt seen_at seen_flags 1 2

    seen_is : (by_masks (masks_at v o) c).seen ≡ with_bit s v (seen_of (code c v))
    seen_is =
        changed_through (λ t. t % half_size) (λ a b. and_mod a b most_variables) (λ a b. xor_mod a b most_variables)
        (pair s w) (masks_at v o).own (pair w s) (masks_at v o).other (masks_at v o).always
        ∙ (λ t. changed (pair_low s w hs t) (pair_low own_seen own_value own_low t) (pair_low w s hw t) (pair_low other_seen other_value other_low t) (pair_low (seen_at 2) (value_at 2) always_low t))
        ∙ mask_changed v l seen_of seen_lt seen_at seen_flags 1 2 s w
        ∙ ap (with_bit s v)
        ((tested (bit s v) (bit w v) (seen_of 0) (seen_of 1) (seen_of 2) (bit_lt s v) (g.inside v) (seen_lt 0) (seen_lt 1) (seen_lt 2)).0
        ∙ pick_code seen_of (code c v) (code_lt c v))

    value_is : (by_masks (masks_at v o) c).value ≡ with_bit w v (value_of (code c v))
    value_is =
        changed_through (λ t. t / half_size) (λ a b. and_shr a b most_variables) (λ a b. xor_shr a b most_variables)
        (pair s w) (masks_at v o).own (pair w s) (masks_at v o).other (masks_at v o).always
        ∙ (λ t. changed (pair_high s w hs t) (pair_high own_seen own_value own_low t) (pair_high w s hw t) (pair_high other_seen other_value other_low t) (pair_high (seen_at 2) (value_at 2) always_low t))
        ∙ mask_changed v l value_of value_lt value_at (λ x. ap (λ (t : Cube). t.value) (images x)) 2 1 w s
        ∙ ap (with_bit w v)
        ((tested (bit s v) (bit w v) (value_of 0) (value_of 1) (value_of 2) (bit_lt s v) (g.inside v) (value_lt 0) (value_lt 1) (value_lt 2)).1
        ∙ pick_code value_of (code c v) (code_lt c v))

-- the number as it is made
pub recoded_made : (k : Masks) (c : Cube) (x y : ℕ) → x ≡ pair c.seen c.value → y ≡ pair c.value c.seen
    → (r : Cube) → r ≡ halves (changed x k.own y k.other k.always) → r ≡ by_masks k c
unfolding by_masks
recoded_made k c x y ex ey r er = er ∙ ap halves (λ t. changed (ex t) k.own (ey t) k.other k.always)

-- the masks as they are made
pub masks_made : (v o m i₀ i₁ i₂ : ℕ) (x y z : Cube) (own other always : ℕ) → m ≡ 2 ^ v
    → i₀ ≡ code_after o 0 → x ≡ with_code one v i₀ → i₁ ≡ code_after o 1 → y ≡ with_code one v i₁ → i₂ ≡ code_after o 2 → z ≡ with_code one v i₂
    → own ≡ pair (bit_xor (bit_xor m x.seen) z.seen) (bit_xor (bit_xor m x.value) y.value)
    → other ≡ pair (bit_xor x.seen y.seen) (bit_xor x.value z.value) → always ≡ word_of z
    → record { own = own; other = other; always = always } ≡ masks_at v o
unfolding masks_at
masks_made v o m i₀ i₁ i₂ x y z own other always em e₀ ex e₁ ey e₂ ez eo et ea =
    let x₁ : x ≡ literal_after v o 0 = ex ∙ ap (with_code one v) e₀ in
    let y₁ : y ≡ literal_after v o 1 = ey ∙ ap (with_code one v) e₁ in
    let z₁ : z ≡ literal_after v o 2 = ez ∙ ap (with_code one v) e₂ in
    λ t. record {
      own = (eo ∙ (λ u. pair (bit_xor (bit_xor (em u) (x₁ u).seen) (z₁ u).seen) (bit_xor (bit_xor (em u) (x₁ u).value) (y₁ u).value))) t;
      other = (et ∙ (λ u. pair (bit_xor (x₁ u).seen (y₁ u).seen) (bit_xor (x₁ u).value (z₁ u).value))) t;
      always = (ea ∙ ap word_of z₁) t;
    }

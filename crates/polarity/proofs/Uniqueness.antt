-- Under a polarity, a function has one form and no other: 001, property 2, for any list that is a form (`Form`, specs/Forms.antt).
-- Assumes nothing.
use mathlib.Core.Path.{◌≡◌, refl, sym, ap, ap₂, ◌∙◌, subst}
use mathlib.Core.Logic.{◌≢◌}
use mathlib.Core.Bool.{Bool, true, false, cond, ◌||◌}
use mathlib.Core.List.{List, [], ◌∷◌, map}
use Prim.Native.Nat.{ℕ, zero, suc, ◌+◌, ◌-◌, ◌^◌, ◌<◌}
use native.Mathlib.Decide.{ℕ_discrete}
use native.Mathlib.Omega.{arith}
use lib.Arith.{lt_of_le-ne}
use lib.Dec.{eqb}
use borrow.Author.Tests.{eq-eqb, ne_eqb}
use Rattle.bits.specs.Bits.{bit}
use Rattle.bits.specs.Below.{those, Ascending}
use Rattle.bits.specs.Sums.{one_if, All}
use Rattle.bits.proofs.Bits.{bit_lt}
use Rattle.bits.proofs.Bools.{one_lt}
use Rattle.bits.proofs.Below.{those_ascending, those_same, those_cong}
use Rattle.cube.specs.declared.Cube.{Cube}
use Rattle.cube.specs.Cubes.{code_of, code, Good}
use Rattle.cube.specs.Lists.{list_value}
use Rattle.cube.proofs.Codes.{code_absent, code_present, cube_ext, good_seen}
use Rattle.polarity.specs.Forms.{coefficient, product, form_from, form_list, variables, Form}
use Rattle.polarity.specs.Words.{nonzero}
use Rattle.polarity.proofs.Forms.{product_code, product_good, form_good}
use Rattle.polarity.proofs.Theorems.{literal_of_polarity_missing, form_unique}

-- ---- a product is its set of variables

other_bit : (x y : ℕ) → x < 2 → y < 2 → x ≢ y → x ≡ 1 - y
other_bit zero zero hx hy d = absurd (d refl)
other_bit zero (suc zero) hx hy d = refl
other_bit (suc zero) zero hx hy d = refl
other_bit (suc zero) (suc zero) hx hy d = absurd (d refl)
other_bit (suc (suc x)) y hx hy d = absurd (omega arith)
other_bit zero (suc (suc y)) hx hy d = absurd (omega arith)
other_bit (suc zero) (suc (suc y)) hx hy d = absurd (omega arith)

one_bit : (x : ℕ) → x < 2 → x ≢ 0 → x ≡ 1
one_bit zero h d = absurd (d refl)
one_bit (suc x) h d = omega arith

product_is : (n p : ℕ) (c : Cube) → Good n c → ((k : ℕ) → code c k ≢ bit p k) → c ≡ product p c.seen
product_is n p c g d = cube_ext n c (product p c.seen) g (product_good p c.seen n (good_seen n c g)) (λ k l. at k (ℕ_discrete (bit c.seen k) 0))
  where
    at : (k : ℕ) → Dec (bit c.seen k ≡ 0) → code c k ≡ code (product p c.seen) k
    at k (yes e) = code_absent c k e ∙ sym (code_absent (product p c.seen) k e)
    at k (no ne) =
        let seen : bit c.seen k ≡ 1 = one_bit (bit c.seen k) (bit_lt c.seen k) ne in
        let here : code c k ≡ bit c.value k = code_present c k ne in
        here ∙ other_bit (bit c.value k) (bit p k) (bit_lt c.value k) (bit_lt p k) (λ q. d k (here ∙ q))
        ∙ sym (product_code p c.seen k ∙ ap (λ (x : ℕ). code_of x (1 - bit p k)) seen)

products_are : (n p : ℕ) (l : List Cube) → All (Good n) l → All (λ c. (k : ℕ) → code c k ≢ bit p k) l → l ≡ map (product p) (map variables l)
products_are n p [] g d = refl
products_are n p (c ∷ l) g d = ap₂ (λ (x : Cube) (m : List Cube). x ∷ m) (product_is n p c g.0 d.0) (products_are n p l g.1 d.1)

-- ---- ascending numbers are those of a range that are among them

unfoldable has : ℕ → List ℕ → Bool
has s [] = false
has s (x ∷ l) = eqb x s || has s l

has_other : (s x : ℕ) (l : List ℕ) → x ≢ s → has s (x ∷ l) ≡ has s l
unfolding has
has_other s x l d = ap (λ (b : Bool). b || has s l) (ne_eqb x s d)

has_first : (s x : ℕ) (l : List ℕ) → x ≡ s → has s (x ∷ l) ≡ true
unfolding has
has_first s x l e = ap (λ (b : Bool). b || has s l) (eq-eqb x s e)

has_below : (s j : ℕ) (l : List ℕ) → Ascending j l → s < j → has s l ≡ false
unfolding has
has_below s j [] a h = refl
has_below s j (x ∷ l) a h = has_other s x l (λ e. omega (arith, e, a.0)) ∙ has_below s (suc x) l a.1 (omega (arith, a.0))

-- the next number is the first of them, or it is not among them
module _ (m k x : ℕ) (l : List ℕ) where
  abbrev after : List ℕ
  after = those (λ s. has s (x ∷ l)) m (suc k)

  has_here : x ≡ k → those (λ s. has s l) m (suc k) ≡ l → cond (has k (x ∷ l)) (k ∷ after) after ≡ x ∷ l
  has_here e ih =
      ap (λ (b : Bool). cond b (k ∷ after) after) (has_first k x l e)
      ∙ ap₂ (λ (y : ℕ) (t : List ℕ). y ∷ t) (sym e)
      (those_same (λ s. has s (x ∷ l)) (λ s. has s l) m (suc k) (λ s g h. has_other s x l (λ q. omega arith)) ∙ ih)

  has_later : k < x → Ascending (suc x) l → after ≡ x ∷ l → cond (has k (x ∷ l)) (k ∷ after) after ≡ x ∷ l
  has_later h a ih =
      ap (λ (b : Bool). cond b (k ∷ after) after) (has_other k x l (λ q. omega arith) ∙ has_below k (suc x) l a (omega arith)) ∙ ih

within_more : (k m : ℕ) (l : List ℕ) → All (λ x. x < k + suc m) l → All (λ x. x < suc k + m) l
within_more k m [] b = tt
within_more k m (x ∷ l) b = (omega (arith, b.0), within_more k m l b.1)

those_has : (m k : ℕ) (l : List ℕ) → Ascending k l → All (λ x. x < k + m) l → those (λ s. has s l) m k ≡ l
unfolding those has
those_has zero k [] a b = refl
those_has zero k (x ∷ l) a b = absurd (omega (arith, a.0, b.0))
those_has (suc m) k [] a b = those_has m (suc k) [] tt tt
those_has (suc m) k (x ∷ l) a b =
    elim (ℕ_discrete x k) [
      | yes e ↦ has_here m k x l e (those_has m (suc k) l (subst (λ (j : ℕ). Ascending (suc j) l) e a.1) (within_more k m l b.1))
      | no d ↦ let h : k < x = lt_of_le-ne a.0 (λ e. d (sym e)) in
          has_later m k x l h a.1 (those_has m (suc k) (x ∷ l) (h, a.1) (within_more k m (x ∷ l) b))
    ]

-- ---- the form is one, and any other is equal to it

variables_of : (p : ℕ) (l : List ℕ) → map variables (map (product p) l) ≡ l
variables_of p [] = refl
variables_of p (s ∷ l) = ap (λ (m : List ℕ). s ∷ m) (variables_of p l)

-- Promised. The form of a function is a form under its polarity ..
pub form_is_form : (n p : ℕ) (f : ℕ → ℕ) → Form n p (form_list n p f)
unfolding form_from
form_is_form n p f = record {
  good = form_good n p (coefficient n p f);
  literals = literal_of_polarity_missing n p (coefficient n p f);
  ascending = subst (Ascending 0) (sym (variables_of p (those (λ s. nonzero (coefficient n p f s)) (2 ^ n) 0)))
      (those_ascending (λ s. nonzero (coefficient n p f s)) (2 ^ n) 0);
}

module _ (n p : ℕ) (l : List Cube) (F : Form n p l) where
  below : (m : List Cube) → All (Good n) m → All (λ x. x < 0 + 2 ^ n) (map variables m)
  below [] g = tt
  below (c ∷ m) g = (omega (arith, good_seen n c g.0), below m g.1)

  nonzero_one : (b : Bool) → nonzero (one_if b) ≡ b
  nonzero_one true = refl
  nonzero_one false = refl

  -- a form is that of the coefficients 1 at its sets of variables
  form_from_lem : l ≡ form_from n p (λ s. one_if (has s (map variables l)))
  unfolding form_from
  form_from_lem =
      products_are n p l F.good F.literals
      ∙ ap (map (product p)) (sym (those_cong (λ s. nonzero (one_if (has s (map variables l)))) (λ s. has s (map variables l)) (λ s. nonzero_one (has s (map variables l))) (2 ^ n) 0
      ∙ those_has (2 ^ n) 0 (map variables l) F.ascending (below l F.good)))

  -- .. and, promised as 001's property 2, every form under that polarity that has the function's values is that list.
  pub form_is_only : p < 2 ^ n → (f : ℕ → ℕ) → ((a : ℕ) → a < 2 ^ n → list_value n l a ≡ f a) → l ≡ form_list n p f
  form_is_only h f same =
      form_from_lem
      ∙ form_unique n p h f (λ s. one_if (has s (map variables l))) (λ s. one_lt (has s (map variables l))) (λ a b. ap (λ (m : List Cube). list_value n m a) (sym form_from_lem) ∙ same a b)

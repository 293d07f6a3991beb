-- What the list of the variables in which two cubes differ says of the cubes.
-- Assumes nothing.
use mathlib.Core.Path.{◌≡◌, refl, sym, ap, ◌∙◌, subst}
use mathlib.Core.Logic.{◌≢◌, inl, inr}
use mathlib.Core.Bool.{Bool, not}
use mathlib.Core.List.Memᴰ
use mathlib.Core.List.{List, [], ◌∷◌, Memᴰ}
use Prim.Native.Nat.{ℕ, ◌<◌}
use native.Mathlib.Nat.{zero-add}
use native.Mathlib.Decide.{ℕ_discrete}
use native.Mathlib.Omega.{arith}
use lib.Dec.{eqb}
use lib.ListN.{length}
use borrow.Author.Tests.{eqb-true, eqb-false, eq-eqb, ne_eqb, not-true}
use Rattle.cube.specs.declared.Cube.{Cube}
use Rattle.bits.specs.Sums.{one_if}
use Rattle.bits.proofs.Bools.{same_bool}
use Rattle.bits.proofs.Below.{those_bounds, those_all, those_ascend, those_count, sum_cong, sum_none}
use Rattle.cube.specs.Cubes.{code, differ_at, apart, differing_number, Good}
use Rattle.cube.proofs.Codes.{cube_ext}

-- ---- two cubes, by where they differ

module _ (n : ℕ) (c d : Cube) where
  -- a variable of the list is below n, and there the cubes differ
  pub apart_in : (k : ℕ) → Memᴰ k (apart n c d) → (k < n) × (code d k ≢ code c k)
  unfolding apart
  apart_in k h =
      let t = those_bounds (differ_at c d) n 0 k h in
      (omega (arith, t.1), λ e. eqb-false (code c k) (code d k) (not-true (eqb (code c k) (code d k)) t.2) (sym e))

  -- elsewhere they agree
  pub apart_out : (k : ℕ) → k < n → (Memᴰ k (apart n c d) → ⊥) → code c k ≡ code d k
  unfolding apart
  apart_out k h f =
      elim (ℕ_discrete (code c k) (code d k)) [
        | yes e ↦ e
        | no e ↦ absurd (f (those_all (differ_at c d) n 0 k (omega arith) (omega arith) (ap not (ne_eqb (code c k) (code d k) e))))
      ]

  -- the list has as many as there are
  pub apart_number : length (apart n c d) ≡ differing_number n c d
  unfolding apart differing_number
  apart_number =
      those_count (differ_at c d) n 0 ∙ sum_cong n _ _ (λ t l. ap (λ (k : ℕ). one_if (differ_at c d k)) (zero-add t))

  -- none of good cubes: they are equal
  pub number_none : Good n c → Good n d → differing_number n c d ≡ 0 → c ≡ d
  number_none g h z = cube_ext n c d g h (λ k l. apart_out k l (λ m. empty (apart n c d) (apart_number ∙ z) k m))
    where
      empty : (l : List ℕ) → length l ≡ 0 → (k : ℕ) → Memᴰ k l → ⊥
      empty [] e k m = Memᴰ.not-nil m
      empty (x ∷ l) e k m = omega arith

  pub apart_none : apart n c d ≡ [] → (k : ℕ) → k < n → code c k ≡ code d k
  apart_none e k h = apart_out k h (λ t. Memᴰ.not-nil (subst (λ (l : List ℕ). Memᴰ k l) e t))

  pub apart_one : (v : ℕ) → apart n c d ≡ v ∷ [] → (v < n) × (code d v ≢ code c v) × ((k : ℕ) → k < n → k ≢ v → code c k ≡ code d k)
  apart_one v e =
      let t = apart_in v (subst (λ (l : List ℕ). Memᴰ v l) (sym e) (Memᴰ.head refl)) in
      (t.0, t.1, λ k h f. apart_out k h (λ m. f (Memᴰ.eq_of_singleton (subst (λ (l : List ℕ). Memᴰ k l) e m))))

  -- the two variables p and q in which the cubes differ
  pub record Two (p q : ℕ) : Type 0 where
    pub p_lt : p < n
    pub q_lt : q < n
    pub distinct : p ≢ q
    pub at_p : code d p ≢ code c p
    pub at_q : code d q ≢ code c q
    pub elsewhere : (k : ℕ) → k < n → k ≢ p → k ≢ q → code c k ≡ code d k

  pub apart_two : (p q : ℕ) → apart n c d ≡ p ∷ q ∷ [] → Two p q
  unfolding apart
  apart_two p q e =
      let s = apart_in p (subst (λ (l : List ℕ). Memᴰ p l) (sym e) (Memᴰ.head refl)) in
      let t = apart_in q (subst (λ (l : List ℕ). Memᴰ q l) (sym e) (Memᴰ.tail (Memᴰ.head refl))) in
      let less : p < q = those_ascend (differ_at c d) n 0 p q [] e in
      record {
        p_lt = s.0;
        q_lt = t.0;
        distinct = (λ f. omega (arith, f, less));
        at_p = s.1;
        at_q = t.1;
        elsewhere = λ k h f g. apart_out k h (λ m. two k f g (subst (λ (l : List ℕ). Memᴰ k l) e m));
      }
    where
      two : (k : ℕ) → k ≢ p → k ≢ q → Memᴰ k (p ∷ q ∷ []) → ⊥
      two k f g m = elim (Memᴰ.cases_cons m) [ inl e ↦ f e | inr r ↦ g (Memᴰ.eq_of_singleton r) ]

pub two_swap : (n : ℕ) (c d : Cube) (p q : ℕ) → Two n c d p q → Two n c d q p
two_swap n c d p q t = record {
  p_lt = t.q_lt;
  q_lt = t.p_lt;
  distinct = (λ e. t.distinct (sym e));
  at_p = t.at_q;
  at_q = t.at_p;
  elsewhere = λ k h f g. t.elsewhere k h g f;
}

-- a cube does not differ from itself
pub number_same : (n : ℕ) (c : Cube) → differing_number n c c ≡ 0
unfolding differing_number
number_same n c = sum_none n _ (λ k l. ap (λ (b : Bool). one_if (not b)) (eq-eqb (code c k) (code c k) refl))

-- and two cubes differ from each other in as many variables
pub number_swap : (n : ℕ) (c d : Cube) → differing_number n c d ≡ differing_number n d c
unfolding differing_number
number_swap n c d = sum_cong n _ _ (λ k l. ap (λ (b : Bool). one_if (not b)) (either (code c k) (code d k)))
  where
    either : (x y : ℕ) → eqb x y ≡ eqb y x
    either x y = same_bool (eqb x y) (eqb y x) (λ e. eq-eqb y x (sym (eqb-true x y e))) (λ e. eq-eqb x y (sym (eqb-true y x e)))

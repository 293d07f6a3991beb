-- Laws of the least of many, for any f: over two ranges side by side, over a range that is moved, that it is the only one, and that `first_below` is it where f
-- decides the order.
-- Assumes nothing.
use mathlib.Core.Path.{◌≡◌, refl, sym, ap, ◌∙◌, subst}
use mathlib.Core.Logic.{⊎_elim}
use mathlib.Core.Bool.{Bool, cond}
use Prim.Native.Nat.{ℕ, zero, suc, ◌+◌, ◌-◌, ◌<◌, ◌≤◌, zero-le}
use native.Mathlib.Nat.{le_refl, le_antisymm}
use native.Mathlib.Numerals.{add-one}
use native.Mathlib.Omega.{arith}
use borrow.Author.Tests.{lt-ltb, le-ltb}
use lib.Dec.{ltb}
use Rattle.bits.specs.Below.{first_below}
use Rattle.bits.proofs.Bools.{below_or}

-- of the numbers from a to b, p is the one at which f is least, and of several such the smallest
pub record LeastIn (f : ℕ → ℕ) (a b p : ℕ) : Type 0 where
  pub from : a ≤ p
  pub inside : p < b
  pub least : (q : ℕ) → a ≤ q → q < b → f p ≤ f q
  pub smallest : (q : ℕ) → a ≤ q → q < p → f p < f q

-- of the numbers below m
abbrev pub Least : (ℕ → ℕ) → ℕ → ℕ → Type 0
Least f m p = LeastIn f 0 m p

module _ (f : ℕ → ℕ) where
  pub in_one : (a b : ℕ) → b ≡ a + 1 → LeastIn f a b a
  in_one a b e = record {
    from = le_refl a;
    inside = omega arith;
    least = λ q l h. subst (λ (x : ℕ). f a ≤ f x) (omega arith) (le_refl (f a));
    smallest = λ q l h. absurd (omega arith);
  }

  -- of two ranges side by side: the upper one's where it is less, else the lower one's
  module _ (a b c p q : ℕ) (P : LeastIn f a b p) (Q : LeastIn f b c q) where
    pub in_upper : f q < f p → LeastIn f a c q
    in_upper h = record {
      from = omega (arith, P.from, P.inside, Q.from);
      inside = Q.inside;
      least = λ x l u. ⊎_elim (λ m. omega (arith, P.least x l m)) (λ m. Q.least x m u) (below_or x b);
      smallest = λ x l u. ⊎_elim (λ m. omega (arith, P.least x l m)) (λ m. Q.smallest x m u) (below_or x b);
    }

    pub in_lower : f p ≤ f q → LeastIn f a c p
    in_lower h = record {
      from = P.from;
      inside = omega (arith, P.inside, Q.from, Q.inside);
      least = λ x l u. ⊎_elim (λ m. P.least x l m) (λ m. omega (arith, Q.least x m u)) (below_or x b);
      smallest = P.smallest;
    }

  -- of a range moved up by t
  pub in_moved : (t m p : ℕ) → LeastIn (λ x. f (t + x)) 0 m p → LeastIn f t (t + m) (t + p)
  in_moved t m p P = record {
    from = omega arith;
    inside = omega (arith, P.inside);
    least = λ q l h.
        let e : t + (q - t) ≡ q = omega arith in
        subst (λ (x : ℕ). f (t + p) ≤ f x) e (P.least (q - t) zero-le (omega arith));
    smallest = λ q l h.
        let e : t + (q - t) ≡ q = omega arith in
        subst (λ (x : ℕ). f (t + p) < f x) e (P.smallest (q - t) zero-le (omega arith));
  }

  -- for g that is the same there
  pub in_alike : (g : ℕ → ℕ) (a b p : ℕ) → ((q : ℕ) → a ≤ q → q < b → f q ≡ g q) → LeastIn f a b p → LeastIn g a b p
  in_alike g a b p same P = record {
    from = P.from;
    inside = P.inside;
    least = λ q l h. omega (arith, same p P.from P.inside, same q l h, P.least q l h);
    smallest = λ q l h. omega (arith, same p P.from P.inside, same q l (omega (arith, P.inside)), P.smallest q l h);
  }

  in_at_most : (a b p q : ℕ) → LeastIn f a b p → LeastIn f a b q → p ≤ q
  in_at_most a b p q P Q =
      ⊎_elim (λ l. absurd (omega (arith, P.smallest q Q.from l, Q.least p P.from P.inside))) (λ h. h) (below_or q p)

  pub in_unique : (a b p q : ℕ) → LeastIn f a b p → LeastIn f a b q → p ≡ q
  in_unique a b p q P Q = le_antisymm (in_at_most a b p q P Q) (in_at_most a b q p Q P)

  -- ---- in an order that f decides

  module _ (before : ℕ → ℕ → Bool) (decides : (q p : ℕ) → before q p ≡ ltb (f q) (f p)) where
    first_later : (m : ℕ) → f m < f (first_below before m) → first_below before (suc m) ≡ m
    unfolding first_below
    first_later m l = ap (λ (b : Bool). cond b m (first_below before m)) (decides m (first_below before m) ∙ lt-ltb _ _ l)

    first_kept : (m : ℕ) → f (first_below before m) ≤ f m → first_below before (suc m) ≡ first_below before m
    unfolding first_below
    first_kept m l = ap (λ (b : Bool). cond b m (first_below before m)) (decides m (first_below before m) ∙ le-ltb _ _ l)

    first_one : first_below before 1 ≡ 0
    unfolding first_below
    first_one = first_kept 0 (le_refl (f 0))

    pub first_is : (m : ℕ) → Least f (suc m) (first_below before (suc m))
    first_is zero = subst (Least f 1) (sym first_one) (in_one 0 1 refl)
    first_is (suc m) =
        let P : Least f (suc m) (first_below before (suc m)) = first_is m in
        let Q : LeastIn f (suc m) (suc (suc m)) (suc m) = in_one (suc m) (suc (suc m)) (sym (add-one (suc m))) in
        ⊎_elim
        (λ l. subst (Least f (suc (suc m))) (sym (first_later (suc m) l)) (in_upper 0 (suc m) (suc (suc m)) (first_below before (suc m)) (suc m) P Q l))
        (λ l. subst (Least f (suc (suc m))) (sym (first_kept (suc m) l)) (in_lower 0 (suc m) (suc (suc m)) (first_below before (suc m)) (suc m) P Q l))
        (below_or (f (suc m)) (f (first_below before (suc m))))

    pub first_least_lem : (m : ℕ) → 0 < m → Least f m (first_below before m)
    first_least_lem zero h = absurd (omega arith)
    first_least_lem (suc m) h = first_is m

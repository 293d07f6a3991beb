-- The first pair of a list: that the meaning's places are it, and that nothing else is.
-- Assumes nothing.
use mathlib.Core.Path.{◌≡◌, sym, ap, ◌∙◌, subst}
use mathlib.Core.Logic.{◌⊎◌, inl, inr, ⊎_elim}
use mathlib.Core.Bool.{true, false, true≢false}
use mathlib.Core.List.{List}
use Prim.Native.Nat.{ℕ, suc, ◌+◌, ◌-◌, ◌≤◌, ◌<◌, zero-le}
use native.Mathlib.Nat.{zero-add}
use native.Mathlib.Decide.{ℕ_discrete}
use native.Mathlib.Omega.{arith}
use lib.Dec.{ltb, leb}
use lib.ListN.{length}
use borrow.Author.Tests.{lt-ltb, ltb-true}
use Rattle.bits.specs.Below.{FirstIn}
use Rattle.bits.proofs.Bools.{below_or, never_true}
use Rattle.bits.proofs.First.{first_from_lem}
use Rattle.cube.specs.declared.Cube.{Cube}
use Rattle.cube.proofs.Apart.{number_swap}
use Rattle.writer.specs.Pairs.{pair, pair_at, partner, lowest, has_pair, IsPair, First}

pub pair_swap : (n : ℕ) (a b : Cube) → pair n a b ≡ pair n b a
unfolding pair
pair_swap n a b = ap (λ (k : ℕ). leb k 1) (number_swap n a b)

module _ (n : ℕ) (l : List Cube) where
  -- ---- the partner of a row

  pub partner_is : (i : ℕ) → i < length l → FirstIn (pair_at n l i) (suc i) (length l) (partner n l i)
  unfolding partner
  partner_is i h =
      let e : suc i + (length l - suc i) ≡ length l = omega arith in
      subst (λ (end : ℕ). FirstIn (pair_at n l i) (suc i) end (partner n l i)) e (first_from_lem (pair_at n l i) (length l - suc i) (suc i))

  -- it makes a pair
  pub partner_pair : (i : ℕ) → i < length l → partner n l i < length l → IsPair n l i (partner n l i)
  partner_pair i h g = let p = partner_is i h in record { above = p.before.low; inside = g; near = p.passes g }

  -- and no other place that does is below it
  pub pair_partner : (r s : ℕ) → IsPair n l r s → partner n l r ≤ s
  pair_partner r s p =
      let q = partner_is r (omega (arith, p.above, p.inside)) in
      ⊎_elim (λ g. absurd (true≢false (sym p.near ∙ q.before.none s p.above g))) (λ g. g) (below_or s (partner n l r))

  -- ---- the first pair

  lowest_is : FirstIn (λ i. ltb (partner n l i) (length l)) 0 (length l) (lowest n l)
  unfolding lowest
  lowest_is =
      subst (λ (end : ℕ). FirstIn (λ i. ltb (partner n l i) (length l)) 0 end (lowest n l)) (zero-add (length l))
      (first_from_lem (λ i. ltb (partner n l i) (length l)) (length l) 0)

  -- the row of a pair is not below the lowest
  lowest_most : (r s : ℕ) → IsPair n l r s → lowest n l ≤ r
  lowest_most r s p =
      ⊎_elim
      (λ g.
      let near : partner n l r < length l = omega (arith, pair_partner r s p, p.inside) in
      absurd (true≢false (sym (lt-ltb (partner n l r) (length l) near) ∙ lowest_is.before.none r zero-le g)))
      (λ g. g) (below_or r (lowest n l))

  pub has_first : has_pair n l ≡ true → First n l (lowest n l) (partner n l (lowest n l))
  unfolding has_pair
  has_first e =
      let h : lowest n l < length l = ltb-true (lowest n l) (length l) e in
      record { is = partner_pair (lowest n l) h (ltb-true _ (length l) (lowest_is.passes h)); least = λ r s p. go r s p }
    where
      go : (r s : ℕ) → IsPair n l r s → (lowest n l < r) ⊎ ((lowest n l ≡ r) × (partner n l (lowest n l) ≤ s))
      go r s p =
          elim (ℕ_discrete (lowest n l) r) [
            | yes q ↦ inr (q, subst (λ (x : ℕ). partner n l x ≤ s) (sym q) (pair_partner r s p))
            | no d ↦ inl (omega (arith, d, lowest_most r s p))
          ]

  -- where there is a pair there is a first one, and else none
  pub pair_has : (r s : ℕ) → IsPair n l r s → has_pair n l ≡ true
  unfolding has_pair
  pair_has r s p = lt-ltb (lowest n l) (length l) (omega (arith, lowest_most r s p, p.above, p.inside))

  pub none_left : has_pair n l ≡ false → (r s : ℕ) → IsPair n l r s → ⊥
  none_left e r s p = true≢false (sym (pair_has r s p) ∙ e)

  pub left_none : ((r s : ℕ) → IsPair n l r s → ⊥) → has_pair n l ≡ false
  left_none f = never_true (has_pair n l) (λ e. f _ _ (has_first e).is)

  -- there is one first pair only
  module _ (i j : ℕ) (p : First n l i j) where
    pub first_lowest : lowest n l ≡ i
    first_lowest =
        let has = has_first (pair_has i j p.is) in
        ⊎_elim (λ a. ⊎_elim (λ b. absurd (omega arith)) (λ b. absurd (omega (arith, b.0))) (p.least _ _ has.is)) (λ a. a.0) (has.least i j p.is)

    pub first_partner : partner n l (lowest n l) ≡ j
    first_partner =
        let has = has_first (pair_has i j p.is) in
        ⊎_elim
        (λ a. absurd (omega (arith, first_lowest)))
        (λ a. ⊎_elim (λ b. absurd (omega (arith, first_lowest))) (λ b. omega (arith, a.1, b.1)) (p.least _ _ has.is))
        (has.least i j p.is)

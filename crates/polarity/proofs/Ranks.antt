-- One number decides the order that choices go by: a list that comes before another has the lesser rank. From the ranks alone come the cost and the
-- products.
-- Assumes nothing.
use mathlib.Core.Path.{◌≡◌, refl, sym, ap, ap₂, ◌∙◌}
use mathlib.Core.Logic.{◌⊎◌, inl, inr, ⊎_elim}
use mathlib.Core.Bool.{Bool, true, false, not, ◌&&◌, ◌||◌}
use mathlib.Core.List.{List}
use Prim.Native.Nat.{ℕ, suc, ◌+◌, ◌-◌, ◌*◌, ◌/◌, ◌<◌, ◌≤◌, zero-le}
use native.Mathlib.Omega.{arith}
use borrow.Author.Tests.{lt-ltb, le-ltb, eq-eqb, ne_eqb, ltb-true}
use lib.Dec.{eqb, ltb}
use lib.ListN.{length}
use Rattle.bits.specs.Below.{first_below, LeastThen}
use Rattle.bits.specs.Sums.{one_if, tally}
use Rattle.bits.proofs.Bools.{below_or}
use Rattle.bits.proofs.Least.{Least, first_is}
use Rattle.bits.proofs.Sums.{tally_le}
use Rattle.cube.specs.declared.Cube.{Cube}
use Rattle.cube.specs.Cubes.{bare}
use Rattle.polarity.specs.Cost.{some_bare, cost, cheaper}
use Rattle.polarity.specs.Ranks.{counts_of, rank}

-- less, or as much and then less: of numbers of which the second is the first or one more, the sum decides
sum_decides : (c d x y : ℕ) → c ≤ x → x ≤ suc c → d ≤ y → y ≤ suc d → (ltb c d || (eqb c d && ltb x y)) ≡ ltb (suc (c + x)) (suc (d + y))
sum_decides c d x y cx xc dy yd = ⊎_elim less (λ h. ⊎_elim (more h) (same h) (below_or d c)) (below_or c d)
  where
    less : c < d → (ltb c d || (eqb c d && ltb x y)) ≡ ltb (suc (c + x)) (suc (d + y))
    less h = ap (λ (b : Bool). b || (eqb c d && ltb x y)) (lt-ltb c d h) ∙ sym (lt-ltb (suc (c + x)) (suc (d + y)) (omega arith))

    more : d ≤ c → d < c → (ltb c d || (eqb c d && ltb x y)) ≡ ltb (suc (c + x)) (suc (d + y))
    more h l =
        ap₂ (λ (a b : Bool). a || (b && ltb x y)) (le-ltb c d h) (ne_eqb c d (λ e. omega arith)) ∙ sym (le-ltb (suc (c + x)) (suc (d + y)) (omega arith))

    by_second : c ≡ d → (x < y) ⊎ (y ≤ x) → ltb x y ≡ ltb (suc (c + x)) (suc (d + y))
    by_second e (inl l) = lt-ltb x y l ∙ sym (lt-ltb (suc (c + x)) (suc (d + y)) (omega arith))
    by_second e (inr l) = le-ltb x y l ∙ sym (le-ltb (suc (c + x)) (suc (d + y)) (omega arith))

    same : d ≤ c → c ≤ d → (ltb c d || (eqb c d && ltb x y)) ≡ ltb (suc (c + x)) (suc (d + y))
    same h l =
        let e : c ≡ d = omega arith in
        ap₂ (λ (a b : Bool). a || (b && ltb x y)) (le-ltb c d h) (eq-eqb c d e) ∙ by_second e (below_or x y)

module _ (l : List Cube) where
  pub free_one : one_if (some_bare l) ≤ length l
  free_one = go (ltb 0 (tally bare l)) refl
    where
      go : (b : Bool) → ltb 0 (tally bare l) ≡ b → one_if b ≤ length l
      go true e = omega (arith, ltb-true 0 (tally bare l) e, tally_le bare l)
      go false e = omega arith

  -- one more than cost and products together
  pub rank_is : rank l ≡ suc (cost l + length l)
  unfolding cost counts_of
  rank_is = go (some_bare l) free_one
    where
      go : (b : Bool) → one_if b ≤ length l → 2 * length l + one_if (not b) ≡ suc (length l - one_if b + length l)
      go true h = omega arith
      go false h = omega arith

  -- at most one product is free
  pub cost_most : cost l ≤ length l
  unfolding cost
  cost_most = omega arith

  pub cost_near : length l ≤ suc (cost l)
  unfolding cost
  cost_near = go (some_bare l)
    where
      go : (b : Bool) → length l ≤ suc (length l - one_if b)
      go true = omega arith
      go false = omega arith

  -- one is free where a list costs less than its products
  pub free_is : some_bare l ≡ not (eqb (cost l) (length l))
  unfolding cost
  free_is = go (some_bare l) free_one
    where
      go : (b : Bool) → one_if b ≤ length l → b ≡ not (eqb (length l - one_if b) (length l))
      go true h = rw (ne_eqb (length l - 1) (length l) (λ e. omega arith))
      go false h = rw (eq-eqb (length l - 0) (length l) (omega arith))

  -- half of the rank are the products
  pub half_rank : rank l / 2 ≡ length l
  unfolding counts_of
  half_rank = go (some_bare l)
    where
      go : (b : Bool) → (2 * length l + one_if (not b)) / 2 ≡ length l
      go true = omega arith
      go false = omega arith

module _ (l m : List Cube) where
  -- a list that ranks no higher costs no more, and has no more products
  pub rank_cost : rank l ≤ rank m → cost l ≤ cost m
  rank_cost h = omega (arith, h, rank_is l, rank_is m, cost_most l, cost_near m)

  pub rank_products : rank l ≤ rank m → length l ≤ length m
  rank_products h = omega (arith, h, rank_is l, rank_is m, cost_near l, cost_most m)

  -- "the least cost, then the fewest products" is the lesser rank
  pub cheaper_rank : cheaper l m ≡ ltb (rank l) (rank m)
  unfolding cheaper
  cheaper_rank =
      sum_decides (cost l) (cost m) (length l) (length m) (cost_most l) (cost_near l) (cost_most m) (cost_near m)
      ∙ sym (ap₂ ltb (rank_is l) (rank_is m))

-- ---- the first of several lists

module _ (lists : ℕ → List Cube) where
  abbrev ranks : ℕ → ℕ
  ranks k = rank (lists k)

  -- the first of those below a number, in the order that choices go by, has the least rank ..
  pub first_ranks : (m : ℕ) → Least ranks (suc m) (first_below (λ q p. cheaper (lists q) (lists p)) (suc m))
  first_ranks = first_is ranks _ (λ q p. cheaper_rank (lists q) (lists p))

  -- .. and so the least cost, of those the fewest products, and of those it is the first
  pub least_first : (m p : ℕ) → Least ranks m p → LeastThen (λ k. cost (lists k)) (λ k. length (lists k)) m p
  least_first m p L = record {
    inside = L.inside;
    least = λ q h. rank_cost (lists p) (lists q) (L.least q zero-le h);
    then_least = λ q h e. rank_products (lists p) (lists q) (L.least q zero-le h);
    then_smallest = λ q h e d. ⊎_elim (λ l. absurd (omega (arith, e, d, L.smallest q zero-le l, rank_is (lists q), rank_is (lists p)))) (λ l. l) (below_or q p);
  }

-- What a tree's list costs by Two's measure is what the tree costs; and how a cube grows on the way through a tree, which gives it the codes of variables 0, 1
-- and so on in turn.
-- Assumes nothing.
use mathlib.Core.Path.{◌≡◌, refl, sym, ap, ap₂, ◌∙◌, subst}
use mathlib.Core.Bool.{Bool, true, false, ◌&&◌, not, cond, and-false, and-true}
use mathlib.Core.List.{[], ◌∷◌}
use Prim.Native.Nat.{ℕ, zero, suc, ◌+◌, ◌*◌, ◌^◌, ◌≤◌, ◌<◌}
use native.Mathlib.Nat.{le_refl, zero-mul, add-zero, pow-suc}
use native.Mathlib.Omega.{arith}
use borrow.Author.Tests.{ne_eqb}
use lib.Dec.{eqb, ltb}
use lib.ListN.{length, length-append}
use lib.Pow.{pow_pos}
use Rattle.bits.specs.Bits.{with_bit}
use Rattle.bits.specs.Sums.{one_if, tally}
use Rattle.bits.proofs.Sums.{tally_append}
use Rattle.cube.specs.declared.Cube.{Cube}
use Rattle.cube.specs.Cubes.{seen_bit, put, with_code, one, bare, Good}
use Rattle.cube.proofs.Codes.{with_put, put_good, good_more, one_good}
use Rattle.polarity.specs.Cost.{cost}
use Rattle.trees.specs.declared.Expansion.{Expansion}
use Rattle.trees.specs.declared.Expansion.TheVariants.{Shannon, Positive, Negative}
use Rattle.trees.specs.Trees.{first, second, first_code, second_code, unmarked, Tree, leaf, node, leaf_list, products, list_of, tree_cost}

-- ---- the codes of a node

pub first_code_lem : (e : Expansion) → first_code e < 3
first_code_lem Shannon = omega arith
first_code_lem Positive = omega arith
first_code_lem Negative = omega arith

-- a literal always leads to the second branch
pub second_code_lem : (e : Expansion) → second_code e < 2
second_code_lem Shannon = omega arith
second_code_lem Positive = omega arith
second_code_lem Negative = omega arith

-- ---- the cube that leads to a branch

module _ (k : ℕ) (c : Cube) (x : ℕ) (few : k < 32) (h : x < 3) (g : Good k c) where
  -- it has one variable more
  pub with_good : Good (suc k) (with_code c k x)
  with_good = subst (Good (suc k)) (sym (with_put c k x few)) (put_good (suc k) c k x (good_more k (suc k) c (omega arith) g) (le_refl (suc k)) h)

  -- a literal of the branch is the highest that it has
  seen_next : (with_code c k x).seen ≡ c.seen + seen_bit x * 2 ^ k
  unfolding put with_bit
  seen_next = ap (λ (d : Cube). d.seen) (with_put c k x few) ∙ rw (g.below k (le_refl k)) (omega arith)

  -- it has no literal where c has none and the branch has none
  bare_next : bare (with_code c k x) ≡ bare c && eqb x 2
  bare_next = ap (λ (s : ℕ). eqb s 0) seen_next ∙ go x h
    where
      go : (x : ℕ) → x < 3 → eqb (c.seen + seen_bit x * 2 ^ k) 0 ≡ bare c && eqb x 2
      go zero h = ne_eqb (c.seen + 1 * 2 ^ k) 0 (λ e. omega (arith, e, pow_pos k)) ∙ sym (and-false (bare c))
      go (suc zero) h = ne_eqb (c.seen + 1 * 2 ^ k) 0 (λ e. omega (arith, e, pow_pos k)) ∙ sym (and-false (bare c))
      go (suc (suc zero)) h = rw (zero-mul, add-zero, and-true)
      go (suc (suc (suc x))) h = absurd (omega arith)

-- ---- how many products a tree has

-- where a literal leads to a tree it costs its products
pub length_products : {n : ℕ} (t : Tree n) (k : ℕ) (c : Cube) (f : ℕ → ℕ) → length (products t k c f) ≡ tree_cost t false f
unfolding products leaf_list tree_cost
length_products leaf k c f = go (eqb (f 0) 0)
  where
    go : (b : Bool) → length (cond b [] (c ∷ [])) ≡ one_if (not b)
    go true = refl
    go false = refl
length_products (node e t u) k c f =
    rw length-append
    (ap₂ ◌+◌ (length_products t (suc k) (with_code c k (first_code e)) (first e f)) (length_products u (suc k) (with_code c k (second_code e)) (second e f)))

-- at most one for each assignment
pub products_most : {n : ℕ} (t : Tree n) (f : ℕ → ℕ) → tree_cost t false f ≤ 2 ^ n
unfolding tree_cost
products_most leaf f = go (eqb (f 0) 0)
  where
    go : (b : Bool) → one_if (not b) ≤ 1
    go true = omega arith
    go false = omega arith
products_most {n = suc n} (node e t u) f = omega (arith, pow-suc 2 n, products_most t (first e f), products_most u (second e f))

-- the products without literals, where `free` says that c is one: there is at most one, and that is what the tree costs less than under a literal
bare_products : {n : ℕ} (t : Tree n) (k : ℕ) (c : Cube) (f : ℕ → ℕ) (free : Bool) → k + n ≤ 32 → Good k c → bare c ≡ free
    → (tally bare (products t k c f) + tree_cost t free f ≡ tree_cost t false f) × (tally bare (products t k c f) ≤ 1)
unfolding products leaf_list tree_cost tally
bare_products leaf k c f free few g e = go (eqb (f 0) 0) free e
  where
    go : (b free : Bool) → bare c ≡ free → (tally bare (cond b [] (c ∷ [])) + cond free 0 (one_if (not b)) ≡ one_if (not b)) × (tally bare (cond b [] (c ∷ [])) ≤ 1)
    go true true e = omega arith
    go true false e = omega arith
    go false true e = rw e (omega arith)
    go false false e = rw e (omega arith)
bare_products (node e t u) k c f free few g b =
    let p = bare_products t (suc k) (with_code c k (first_code e)) (first e f) (free && unmarked e) (omega arith)
    (with_good k c (first_code e) (omega arith) (first_code_lem e) g)
    (bare_next k c (first_code e) (omega arith) (first_code_lem e) g ∙ ap (λ (b : Bool). b && unmarked e) b) in
    let q = bare_products u (suc k) (with_code c k (second_code e)) (second e f) false (omega arith)
    (with_good k c (second_code e) (omega arith) (omega (arith, second_code_lem e)) g)
    (bare_next k c (second_code e) (omega arith) (omega (arith, second_code_lem e)) g
    ∙ ap (λ (x : Bool). bare c && x) (ne_eqb (second_code e) 2 (λ q. omega (arith, q, second_code_lem e))) ∙ and-false (bare c)) in
    rw tally_append (omega (arith, p, q))

-- Two's cost of a tree's list is the cost of the tree
pub cost_tree : {n : ℕ} (t : Tree n) (f : ℕ → ℕ) → n ≤ 32 → cost (list_of t f) ≡ tree_cost t true f
unfolding cost
cost_tree t f few =
    let p = bare_products t 0 one f true (omega arith) (one_good 0) refl in
    omega (arith, length_products t 0 one f, p, some (tally bare (list_of t f)) p.1)
  where
    some : (x : ℕ) → x ≤ 1 → one_if (ltb 0 x) ≡ x
    some zero h = refl
    some (suc zero) h = refl
    some (suc (suc x)) h = omega arith

-- The calls on a vector: what the costs of its function say of the tree's list, and the call by its tests.
-- Assumes nothing.
use mathlib.Core.Path.{◌≡◌, sym, ap, ap₂, ◌∙◌}
use mathlib.Core.Bool.{true, not}
use mathlib.Core.List.{List, [], ◌∷◌}
use Prim.Native.Nat.{ℕ, ◌≤◌, ◌<◌}
use native.Mathlib.Omega.{arith}
use borrow.Author.Tests.{le-leb, lt-leb}
use lib.Dec.{eqb}
use lib.ListN.{length}
use Rattle.bits.specs.Packed.{packed}
use Rattle.bits.specs.declared.packed.Packed.{Packed}
use Rattle.records.specs.declared.Refusal.{Refusal}
use Rattle.records.specs.Answers.{accepted, refused, refusal}
use Rattle.records.proofs.Answers.{and_then_lem, and_not}
use Rattle.cube.specs.Cubes.{one}
use Rattle.cube.specs.Lists.{cube_capacity}
use Rattle.polarity.specs.Cost.{cost}
use Rattle.polarity.specs.Ranks.{counts_of}
use Rattle.polarity.specs.Vectors.{byte_at, Vector, check_vector}
use Rattle.polarity.proofs.Ranks.{free_is}
use Rattle.polarity.proofs.Vectors.{check_accepts}
use Rattle.trees.specs.declared.Costs.{Costs}
use Rattle.trees.specs.Least.{chosen, tree_list}
use Rattle.trees.specs.Calls.{tree_outcome}
use Rattle.trees.specs.Words.{CostsAre}
use Rattle.trees.proofs.Halves.{stands_vector}
use Rattle.trees.proofs.Prices.{length_products}
use Rattle.trees.proofs.Theorems.{tree_cost_lem}

module _ (n : ℕ) (l : List ℕ) (v : Vector n l) (w : Packed) (e : w ≡ packed l) (r : Costs) (C : CostsAre 0 n w r) where
  products_are : r.products ≡ length (tree_list n (byte_at l))
  products_are = C.products_are (byte_at l) (stands_vector n l v w e) ∙ sym (length_products (chosen n true (byte_at l)) 0 one (byte_at l))

  cost_is : r.cost ≡ cost (tree_list n (byte_at l))
  cost_is = C.cost_is (byte_at l) (stands_vector n l v w e) ∙ sym (tree_cost_lem n (byte_at l) (omega (arith, v.few)))

  pub counts_are : record { products = r.products; constant = not (eqb r.cost r.products) } ≡ counts_of (tree_list n (byte_at l))
  unfolding counts_of
  counts_are =
      let same = ap₂ (λ (x y : ℕ). not (eqb x y)) cost_is products_are ∙ sym (free_is (tree_list n (byte_at l))) in
      λ i. record { products = products_are i; constant = same i }

-- ---- the call, by its tests

module _ (n : ℕ) (l : List ℕ) (room : ℕ) where
  pub tree_refused : (r : Refusal) → check_vector n l ≡ refused r → tree_outcome n l room ≡ refused r
  unfolding tree_outcome
  tree_refused r e = and_not _ _ r e

  module _ (values : List ℕ) (e : check_vector n l ≡ accepted values) (w : Packed) (ew : w ≡ packed l) (c : Costs) (C : CostsAre 0 n w c)
      (capacity : ℕ) (ea : capacity ≡ cube_capacity room) where
    count_is : c.products ≡ length (tree_list n (byte_at l))
    count_is = products_are n l (check_accepts n l values e) w ew c C

    pub tree_5 : (r : Refusal) → r ≡ refusal 5 0 → capacity < c.products → tree_outcome n l room ≡ refused r
    unfolding tree_outcome
    tree_5 r er h =
        let short : cube_capacity room < length (tree_list n (byte_at l)) = omega (arith, ea, count_is) in
        and_then_lem _ _ _ e ∙ simp (lt-leb _ _ short) (ap refused (sym er))

    pub tree_0 : c.products ≤ capacity → tree_outcome n l room ≡ accepted (c.products ∷ c.cost ∷ [])
    unfolding tree_outcome
    tree_0 h =
        let fits : length (tree_list n (byte_at l)) ≤ cube_capacity room = omega (arith, ea, count_is) in
        and_then_lem _ _ _ e
        ∙ simp (le-leb _ _ fits) (ap₂ (λ (x y : ℕ). accepted (x ∷ y ∷ [])) (sym count_is) (sym (cost_is n l (check_accepts n l values e) w ew c C)))

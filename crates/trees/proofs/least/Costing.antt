-- The costs of a node from those of its three functions: below a literal, where no literal leads to it, and the expansion that is chosen.
-- Assumes nothing.
use mathlib.Core.Path.{◌≡◌, refl, sym, ap, ap₂, ◌∙◌, subst}
use mathlib.Core.Bool.{true, false, not}
use Prim.Native.Nat.{ℕ, suc, ◌+◌, ◌%◌, ◌^◌, ◌≤◌}
use native.Mathlib.Omega.{arith}
use lib.Dec.{eqb}
use Rattle.bits.specs.Sums.{one_if}
use Rattle.bits.specs.Packed.{lowered, summed}
use Rattle.bits.specs.declared.packed.Packed.{Packed}
use Rattle.bits.proofs.Bools.{bit_one}
use Rattle.polarity.proofs.Shown.{most}
use Rattle.trees.specs.declared.Expansion.{Expansion}
use Rattle.trees.specs.declared.Expansion.TheVariants.{Shannon, Positive, Negative}
use Rattle.trees.specs.declared.Costs.{Costs}
use Rattle.trees.specs.Trees.{lower, upper, change, first, second, unmarked, tree_cost}
use Rattle.trees.specs.Least.{first_of_three, first_least, least, through, choice, chosen}
use Rattle.trees.specs.Words.{Stands, least_sum, Few, leaf_costs, node_by, node_costs, PaidIs, CostsAre, ChoiceIs}
use Rattle.trees.proofs.Halves.{twice, stands_lower, stands_upper, stands_change, stands_none}
use Rattle.trees.proofs.Choices.{first_least_lem, chosen_cost}

-- ---- below a literal any two of the three functions are the branches

paid_least : (n : ℕ) (f : ℕ → ℕ) → least (suc n) false f ≡ least_sum (least n false (lower f)) (least n false (upper f)) (least n false (change f))
unfolding least
paid_least n f = go (first_least (through n false f)) (first_least_lem (through n false f))
  where
    go : (e : Expansion) → ((d : Expansion) → through n false f e ≤ through n false f d)
        → through n false f e ≡ least_sum (least n false (lower f)) (least n false (upper f)) (least n false (change f))
    go Shannon h = omega (arith, h Positive, h Negative)
    go Positive h = omega (arith, h Shannon, h Negative)
    go Negative h = omega (arith, h Shannon, h Positive)

pub paid_none : (k : ℕ) (w : Packed) (r : ℕ) → r ≡ w.a % 2 → PaidIs k 0 w r
unfolding least
paid_none k w r e = record { few = omega arith; is = λ f S. e ∙ sym (bit_one (w.a % 2) (omega arith)) ∙ ap (λ (x : ℕ). one_if (not (eqb x 0))) (stands_none k f w S) }

-- the number of variables that are left, as a test finds it
pub paid_left : {k : ℕ} {w : Packed} {r : ℕ} (m left : ℕ) → left ≡ m → PaidIs k m w r → PaidIs k left w r
paid_left {k} {w} {r} m left e P = subst (λ (x : ℕ). PaidIs k x w r) (sym e) P

-- none is above 256
pub paid_few : {k left : ℕ} {w : Packed} {r : ℕ} → left ≤ 8 → PaidIs k left w r → r ≤ 256
paid_few {k} {left} few P = omega (arith, P.few, most left few)

pub costs_few : {k left : ℕ} {w : Packed} {r : Costs} → left ≤ 8 → CostsAre k left w r → Few 256 r
costs_few {k} {left} few C =
    let m = most left few in
    record { cost = omega (arith, C.few.cost, m); products = omega (arith, C.few.products, m); paid = omega (arith, C.few.paid, m) }

-- the cost below a literal alone
paid_part : {k n : ℕ} {w : Packed} {r : Costs} → CostsAre k n w r → PaidIs k n w r.paid
paid_part C = record { few = C.few.paid; is = C.paid_is }

pub costs_none : (k left : ℕ) → left ≡ 0 → (w : Packed) (r : Costs) → r ≡ leaf_costs (w.a % 2) → CostsAre k left w r
unfolding least chosen tree_cost
costs_none k left z w r e = subst (λ (m : ℕ). CostsAre k m w r) (sym z) (subst (CostsAre k 0 w) (sym e) leaf_costs_lem)
  where
    P : PaidIs k 0 w (w.a % 2)
    P = paid_none k w (w.a % 2) refl

    leaf_costs_lem : CostsAre k 0 w (leaf_costs (w.a % 2))
    leaf_costs_lem = record { few = record { cost = omega arith; products = P.few; paid = P.few }; cost_is = λ f S. refl; products_are = P.is; paid_is = P.is }

-- the record that is made by the expansion x, where that is the first of the least
pub node_made : (l h : Costs) (d : ℕ) (x e : Expansion) (paid : ℕ) → e ≡ first_of_three (l.paid + h.paid) (l.cost + d) (h.cost + d) → e ≡ x
    → paid ≡ least_sum l.paid h.paid d → record { cost = (node_by x l h d).cost; products = (node_by x l h d).products; paid = paid } ≡ node_costs l h d
unfolding node_costs
node_made l h d x e paid first is p =
    (λ i. record { cost = (node_by x l h d).cost; products = (node_by x l h d).products; paid = p i }) ∙ whole x ∙ ap (λ (y : Expansion). node_by y l h d) (sym is ∙ first)
  where
    whole : (y : Expansion) → record { cost = (node_by y l h d).cost; products = (node_by y l h d).products; paid = least_sum l.paid h.paid d } ≡ node_by y l h d
    whole Shannon = refl
    whole Positive = refl
    whole Negative = refl

-- ---- a node where no literal leads to it, by the expansion that is chosen

least_by : (m : ℕ) (f : ℕ → ℕ) → least (suc m) true f ≡ through m true f (choice m true f)
unfolding least choice
least_by m f = refl

abbrev products_by : ℕ → (ℕ → ℕ) → Expansion → ℕ
products_by m f e = tree_cost (chosen m (unmarked e) (first e f)) false (first e f) + tree_cost (chosen m false (second e f)) false (second e f)

products_by_lem : (m : ℕ) (f : ℕ → ℕ) → tree_cost (chosen (suc m) true f) false f ≡ products_by m f (choice m true f)
unfolding tree_cost chosen
products_by_lem m f = refl

-- ---- a node by variable k from its three functions; j is the next variable, and m are left below the node

module _ (k j left m : ℕ) (next : j ≡ suc k) (below : left ≡ suc m) (few : k + left ≤ 8)
    (w v u : Packed) (is_change : v ≡ lowered k w) (is_upper : u ≡ summed w v) where
  module _ (f : ℕ → ℕ) (S : Stands k left f w) where
    low : Stands j m (lower f) w
    low = stands_lower k j left m next below few f w S

    high : Stands j m (upper f) u
    high = subst (Stands j m (upper f)) (sym (is_upper ∙ ap (summed w) is_change)) (stands_upper k j left m next below few f w S)

    both : Stands j m (change f) v
    both = subst (Stands j m (change f)) (sym is_change) (stands_change k j left m next below few f w S)

  pub paid_node : (l h d r : ℕ) → PaidIs j m w l → PaidIs j m u h → PaidIs j m v d → r ≡ least_sum l h d → PaidIs k left w r
  paid_node l h d r L H D e = record {
    few = omega (arith, H.few, D.few, twice left m below);
    is = λ f S.
        e
        ∙ (λ i. least_sum (L.is (lower f) (low f S) i) (H.is (upper f) (high f S) i) (D.is (change f) (both f S) i))
        ∙ sym (ap (λ (x : ℕ). least x false f) below ∙ paid_least m f);
  }

  module _ (l h : Costs) (d : ℕ) (L : CostsAre j m w l) (H : CostsAre j m u h) (D : PaidIs j m v d) where
    module _ (f : ℕ → ℕ) (S : Stands k left f w) where
      cost_change : d ≡ least m false (change f)
      cost_change = D.is (change f) (both f S)

      -- the three sums that the choice is made of
      by_shannon : l.paid + h.paid ≡ through m true f Shannon
      by_shannon = ap₂ ◌+◌ (L.paid_is (lower f) (low f S)) (H.paid_is (upper f) (high f S))

      by_positive : l.cost + d ≡ through m true f Positive
      by_positive = ap₂ ◌+◌ (L.cost_is (lower f) (low f S)) cost_change

      by_negative : h.cost + d ≡ through m true f Negative
      by_negative = ap₂ ◌+◌ (H.cost_is (upper f) (high f S)) cost_change

      chosen_by : first_of_three (l.paid + h.paid) (l.cost + d) (h.cost + d) ≡ choice m true f
      unfolding choice first_least
      chosen_by = λ i. first_of_three (by_shannon i) (by_positive i) (by_negative i)

      -- the node by any expansion, where no literal leads to it
      node_cost : (e : Expansion) → (node_by e l h d).cost ≡ through m true f e
      node_cost Shannon = by_shannon
      node_cost Positive = by_positive
      node_cost Negative = by_negative

      node_products : (e : Expansion) → (node_by e l h d).products ≡ products_by m f e
      node_products Shannon = ap₂ ◌+◌ (L.paid_is (lower f) (low f S) ∙ sym (chosen_cost m false (lower f))) (H.paid_is (upper f) (high f S) ∙ sym (chosen_cost m false (upper f)))
      node_products Positive = ap₂ ◌+◌ (L.products_are (lower f) (low f S)) (cost_change ∙ sym (chosen_cost m false (change f)))
      node_products Negative = ap₂ ◌+◌ (H.products_are (upper f) (high f S)) (cost_change ∙ sym (chosen_cost m false (change f)))

    abbrev by : Expansion
    by = first_of_three (l.paid + h.paid) (l.cost + d) (h.cost + d)

    node_paid : (e : Expansion) → (node_by e l h d).paid ≡ least_sum l.paid h.paid d
    node_paid Shannon = refl
    node_paid Positive = refl
    node_paid Negative = refl

    node_few : (e : Expansion) → Few (2 ^ left) (node_by e l h d)
    node_few e = record { cost = (sums e).0; products = (sums e).1; paid = rw (node_paid e) (omega (arith, H.few.paid, D.few, twice left m below)) }
      where
        sums : (e : Expansion) → ((node_by e l h d).cost ≤ 2 ^ left) × ((node_by e l h d).products ≤ 2 ^ left)
        sums Shannon = omega (arith, L.few.paid, H.few.paid, twice left m below)
        sums Positive = omega (arith, L.few.cost, L.few.products, D.few, twice left m below)
        sums Negative = omega (arith, H.few.cost, H.few.products, D.few, twice left m below)

    costs_made : CostsAre k left w (node_costs l h d)
    unfolding node_costs
    costs_made = record {
      few = node_few by;
      cost_is = λ f S. node_cost f S by ∙ ap (through m true f) (chosen_by f S) ∙ sym (ap (λ (x : ℕ). least x true f) below ∙ least_by m f);
      products_are = λ f S.
          node_products f S by ∙ ap (products_by m f) (chosen_by f S)
          ∙ sym (ap (λ (x : ℕ). tree_cost (chosen x true f) false f) below ∙ products_by_lem m f);
      paid_is = λ f S. node_paid by ∙ (paid_node l.paid h.paid d _ (paid_part L) (paid_part H) D refl).is f S;
    }

    pub costs_node : (r : Costs) → r ≡ node_costs l h d → CostsAre k left w r
    costs_node r e = subst (CostsAre k left w) (sym e) costs_made

    pub choice_free : (e : Expansion) → e ≡ first_of_three (l.paid + h.paid) (l.cost + d) (h.cost + d) → ChoiceIs k m true w e
    choice_free e is = record { is = λ f S. is ∙ chosen_by f (subst (λ (x : ℕ). Stands k x f w) (sym below) S) }

  pub choice_paid : (l h d : ℕ) → PaidIs j m w l → PaidIs j m u h → PaidIs j m v d → (e : Expansion) → e ≡ first_of_three (l + h) (l + d) (h + d) → ChoiceIs k m false w e
  unfolding choice first_least
  choice_paid l h d L H D e is = record { is = λ f S. is ∙ chosen_by f (subst (λ (x : ℕ). Stands k x f w) (sym below) S) }
    where
      chosen_by : (f : ℕ → ℕ) → Stands k left f w → first_of_three (l + h) (l + d) (h + d) ≡ choice m false f
      chosen_by f S =
          let el = L.is (lower f) (low f S) in
          let eh = H.is (upper f) (high f S) in
          let ed = D.is (change f) (both f S) in
          λ i. first_of_three (el i + eh i) (el i + ed i) (eh i + ed i)

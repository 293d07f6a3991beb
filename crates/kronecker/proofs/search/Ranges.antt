-- The cheapest of a range of choices, from the cheapest of its parts.
-- Assumes nothing.
use mathlib.Core.Path.{◌≡◌, refl, sym, ap, ◌∙◌, subst, subst₂}
use mathlib.Core.Bool.{Bool, true, false, cond}
use mathlib.Core.List.{List}
use Prim.Native.Nat.{ℕ, ◌+◌, ◌*◌, ◌^◌, ◌≤◌, ◌<◌}
use native.Mathlib.Nat.{pow-suc, one-le-pow, pow-le-pow_right}
use native.Mathlib.Numerals.{add-one}
use native.Mathlib.Omega.{arith}
use borrow.Author.Tests.{ltb-true, ltb-false}
use lib.Dec.{ltb}
use lib.ListN.{length, get_or}
use Rattle.bits.proofs.Least.{Least, in_one, in_upper, in_lower, in_moved, in_alike, in_unique, first_least_lem}
use Rattle.kronecker.specs.declared.WrittenKronecker.{WrittenKronecker}
use Rattle.kronecker.specs.Words.{least_below, LeastEntry, lesser_from}

-- of the choices below m, r is the one whose cost is least, and of several such the smallest, with its cost and its products
pub record Cheapest (cost products : ℕ → ℕ) (m : ℕ) (r : WrittenKronecker) : Type 0 where
  pub least : Least cost m r.choice
  pub cost_is : r.cost ≡ cost r.choice
  pub products_are : r.products ≡ products r.choice

-- `least_below` is the least ..
pub least_below_lem : (g : ℕ → ℕ) (m : ℕ) → 0 < m → Least g m (least_below g m)
least_below_lem g = first_least_lem g (λ y x. ltb (g y) (g x)) (λ y x. refl)

module _ (cost products : ℕ → ℕ) (m : ℕ) (r : WrittenKronecker) where
  -- .. and the only one
  pub cheapest_is : Cheapest cost products m r → r.choice ≡ least_below cost m
  cheapest_is C = in_unique cost 0 m r.choice (least_below cost m) C.least (least_below_lem cost m (omega (arith, C.least.inside)))

  pub is_cheapest : 0 < m → r.choice ≡ least_below cost m → r.cost ≡ cost r.choice → r.products ≡ products r.choice → Cheapest cost products m r
  is_cheapest h e ec ep = record { least = subst (Least cost m) (sym e) (least_below_lem cost m h); cost_is = ec; products_are = ep }

  -- where costs and products are the same
  pub cheapest_alike : (cost' products' : ℕ → ℕ) → ((i : ℕ) → i < m → cost i ≡ cost' i) → ((i : ℕ) → i < m → products i ≡ products' i)
      → Cheapest cost products m r → Cheapest cost' products' m r
  cheapest_alike cost' products' same_cost same_products C = record {
    least = in_alike cost cost' 0 m r.choice (λ i l h. same_cost i h) C.least;
    cost_is = C.cost_is ∙ same_cost r.choice C.least.inside;
    products_are = C.products_are ∙ same_products r.choice C.least.inside;
  }

-- of the choices below t and the m after them
pub cheapest_both : (cost products : ℕ → ℕ) (t m : ℕ) (x y : WrittenKronecker) → Cheapest cost products t x → Cheapest (λ i. cost (t + i)) (λ i. products (t + i)) m y
    → (end : ℕ) → end ≡ t + m → (r : WrittenKronecker) → r ≡ lesser_from x y t → Cheapest cost products end r
unfolding lesser_from
cheapest_both cost products t m x y X Y end e r er =
    subst₂ (Cheapest cost products) (sym e) (sym er) (go (ltb y.cost x.cost) refl)
  where
    go : (b : Bool) → ltb y.cost x.cost ≡ b
        → Cheapest cost products (t + m) (cond b (record { cost = y.cost; choice = t + y.choice; products = y.products }) x)
    go true e = record {
      least =
          in_upper cost 0 t (t + m) x.choice (t + y.choice) X.least (in_moved cost t m y.choice Y.least)
          (omega (arith, X.cost_is, Y.cost_is, ltb-true y.cost x.cost e));
      cost_is = Y.cost_is;
      products_are = Y.products_are;
    }
    go false e = record {
      least =
          in_lower cost 0 t (t + m) x.choice (t + y.choice) X.least (in_moved cost t m y.choice Y.least)
          (omega (arith, X.cost_is, Y.cost_is, ltb-false y.cost x.cost e));
      cost_is = X.cost_is;
      products_are = X.products_are;
    }

-- ---- of a table's entries, where each is its choice's cost and its products

abbrev pub entry : List ℕ → ℕ → ℕ
entry l i = get_or l i 0

-- the least entry is the cheapest of them all
pub entry_cheapest : (l : List ℕ) (r : WrittenKronecker) → 0 < length l → LeastEntry l r → Cheapest (entry l) (entry l) (length l) r
entry_cheapest l r h L = is_cheapest (entry l) (entry l) (length l) r h L.choice_is L.cost_is L.products_are

-- the cheapest of those below i: passing them one after the other finds it for all
abbrev pub Passed : List ℕ → ℕ → ℕ → ℕ → Type 0
Passed l i least choice = Cheapest (entry l) (entry l) i (record { cost = least; choice = choice; products = least })

pub passed_one : (l : List ℕ) → Passed l 1 (get_or l 0 0) 0
passed_one l = record { least = in_one (entry l) 0 1 refl; cost_is = refl; products_are = refl }

module _ (l : List ℕ) (i least choice : ℕ) (P : Passed l i least choice) where
  pub passed_less : get_or l i 0 < least → Passed l (i + 1) (get_or l i 0) i
  passed_less h = record {
    least = in_upper (entry l) 0 i (i + 1) choice i P.least (in_one (entry l) i (i + 1) refl) (omega (arith, P.cost_is));
    cost_is = refl;
    products_are = refl;
  }

  pub passed_kept : least ≤ get_or l i 0 → Passed l (i + 1) least choice
  passed_kept h = record {
    least = in_lower (entry l) 0 i (i + 1) choice i P.least (in_one (entry l) i (i + 1) refl) (omega (arith, P.cost_is));
    cost_is = P.cost_is;
    products_are = P.products_are;
  }

  pub passed_all : i ≡ length l → LeastEntry l (record { cost = least; choice = choice; products = least })
  passed_all all = record {
    choice_is = cheapest_is (entry l) (entry l) i _ P ∙ ap (least_below (entry l)) all;
    cost_is = P.cost_is;
    products_are = P.products_are;
  }

-- ---- 3 to the n

pub power_next : (m i : ℕ) → m ≡ 3 ^ i → m * 3 ≡ 3 ^ (i + 1)
power_next m i e = ap (λ (x : ℕ). x * 3) e ∙ rw add-one (sym (pow-suc 3 i))

pub power_most : (n : ℕ) → n ≤ 6 → 3 ^ n ≤ 729
power_most n h = pow-le-pow_right (omega arith) h

pub power_some : (n : ℕ) → 0 < 3 ^ n
power_some n = one-le-pow n 3 (omega arith)

-- The least cost of a function is what the chosen tree costs, and no tree costs less.
-- Assumes nothing.
use mathlib.Core.Path.{◌≡◌, refl, ap₂}
use mathlib.Core.Bool.{Bool, true, false, ◌&&◌, cond}
use Prim.Native.Nat.{ℕ, zero, suc, ◌+◌, ◌≤◌}
use native.Mathlib.Nat.{le_refl, le_trans, add-le-add}
use native.Mathlib.Omega.{arith}
use borrow.Author.Tests.{leb-true, leb-false}
use lib.Dec.{leb}
use Rattle.trees.specs.declared.Expansion.{Expansion}
use Rattle.trees.specs.declared.Expansion.TheVariants.{Shannon, Positive, Negative}
use Rattle.trees.specs.Trees.{first, second, unmarked, Tree, leaf, node, tree_cost}
use Rattle.trees.specs.Least.{first_least, least, through, choice, chosen}

-- ---- the expansion taken has the least of three numbers

module _ (g : Expansion → ℕ) where
  abbrev Lowest : Expansion → Type 0
  Lowest e = (g e ≤ g Shannon) × (g e ≤ g Positive) × (g e ≤ g Negative)

  lowest : Lowest (first_least g)
  unfolding first_least
  lowest = go (leb (g Shannon) (g Positive)) (leb (g Shannon) (g Negative)) (leb (g Positive) (g Negative)) refl refl refl
    where
      go : (x y z : Bool) → leb (g Shannon) (g Positive) ≡ x → leb (g Shannon) (g Negative) ≡ y → leb (g Positive) (g Negative) ≡ z
          → Lowest (cond (x && y) Shannon (cond z Positive Negative))
      go true true z p q r = omega (arith, leb-true, leb-false)
      go true false true p q r = omega (arith, leb-true, leb-false)
      go true false false p q r = omega (arith, leb-true, leb-false)
      go false y true p q r = omega (arith, leb-true, leb-false)
      go false y false p q r = omega (arith, leb-true, leb-false)

  pub first_least_lem : (e : Expansion) → g (first_least g) ≤ g e
  first_least_lem Shannon = lowest.0
  first_least_lem Positive = lowest.1
  first_least_lem Negative = lowest.2

-- ---- trees

-- no choice of expansions costs less
pub none_less : {n : ℕ} (t : Tree n) (free : Bool) (f : ℕ → ℕ) → least n free f ≤ tree_cost t free f
unfolding least tree_cost
none_less leaf free f = le_refl _
none_less (node {n} e t u) free f =
    le_trans (first_least_lem (through n free f) e)
    (add-le-add (none_less t (free && unmarked e) (first e f)) (none_less u false (second e f)))

-- and the tree of the choices costs that
pub chosen_cost : (n : ℕ) (free : Bool) (f : ℕ → ℕ) → tree_cost (chosen n free f) free f ≡ least n free f
unfolding least tree_cost chosen choice
chosen_cost zero free f = refl
chosen_cost (suc n) free f =
    let e = choice n free f in
    ap₂ ◌+◌ (chosen_cost n (free && unmarked e) (first e f)) (chosen_cost n false (second e f))

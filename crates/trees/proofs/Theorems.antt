-- What document 02, Six, and 002, section 2, say of the cheapest tree: theorems for readers. A function of n variables is any f; where its values matter, they
-- are 0 or 1.
-- Assumes nothing.
use mathlib.Core.Path.{◌≡◌, ◌∙◌}
use mathlib.Core.Bool.{Bool, true}
use Prim.Native.Nat.{ℕ, ◌^◌, ◌≤◌, ◌<◌}
use Rattle.bits.specs.Sums.{tally, All}
use Rattle.cube.specs.declared.Cube.{Cube}
use Rattle.cube.specs.Cubes.{Good}
use Rattle.cube.specs.Lists.{list_value}
use Rattle.polarity.specs.Cost.{cost}
use Rattle.polarity.specs.Forms.{form_list, best_polarity}
use Rattle.polarity.proofs.Theorems.{best_is_first}
use Rattle.trees.specs.Trees.{Tree, list_of, polarity_tree}
use Rattle.trees.specs.Least.{least, chosen, tree_list}
use Rattle.trees.proofs.Choices.{none_less, chosen_cost}
use Rattle.trees.proofs.Prices.{cost_tree}
use Rattle.trees.proofs.Values.{list_value_lem, list_good}
use Rattle.trees.proofs.Polarities.{form_is_tree, form_tree_cost}

module _ (n : ℕ) (f : ℕ → ℕ) (few : n ≤ 32) where
  -- "Find the least cost by Two's measure": the cost of the list is the least that the nodes give, each "that of its two branches together".
  pub tree_cost_lem : cost (tree_list n f) ≡ least n true f
  tree_cost_lem = cost_tree (chosen n true f) f few ∙ chosen_cost n true f

  -- "Prove that no choice of expansions in that variable order costs less."
  pub no_tree_costs_less : (t : Tree n) → cost (tree_list n f) ≤ cost (list_of t f)
  no_tree_costs_less t = rw (tree_cost_lem, cost_tree t f few) (none_less t true f)

  -- The list's cubes are good.
  pub tree_is_good : All (Good n) (tree_list n f)
  tree_is_good = list_good (chosen n true f) f few

  module _ (bits : (x : ℕ) → f x < 2) where
    -- The list has the function's value at every assignment.
    pub tree_has_the_value : (a : ℕ) → a < 2 ^ n → list_value n (tree_list n f) a ≡ f a
    tree_has_the_value = list_value_lem (chosen n true f) f few bits

    -- 002: "if we use either the positive or the negative Davio expansion for each variable", the tree is a fixed-polarity form: each has the products of the
    -- other, as often, in another order.
    pub form_is_such_a_tree : (p : ℕ) → p < 2 ^ n → (g : Cube → Bool) → tally g (list_of (polarity_tree n p) f) ≡ tally g (form_list n p f)
    form_is_such_a_tree p h = form_is_tree n p f few h bits

    -- So the cheapest tree costs no more than the form of any polarity ..
    pub not_above_a_form : (p : ℕ) → p < 2 ^ n → cost (tree_list n f) ≤ cost (form_list n p f)
    not_above_a_form p h = rw (form_tree_cost n p f few h bits) at (no_tree_costs_less (polarity_tree n p))

    -- .. and no more than that of the best one.
    pub not_above_the_best : cost (tree_list n f) ≤ cost (form_list n (best_polarity n f) f)
    not_above_the_best = not_above_a_form (best_polarity n f) (best_is_first n f).inside

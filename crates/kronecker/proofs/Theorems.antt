-- What document 02, Ten, and 002, section 2, say of the cheapest choice of one expansion for each variable: theorems for readers. A function of n variables is any f; where
-- its values matter, they are 0 or 1.
-- Assumes nothing.
use mathlib.Core.Path.{◌≡◌, refl, ap, ◌∙◌}
use mathlib.Core.Bool.{Bool}
use Prim.Native.Nat.{ℕ, zero, suc, ◌+◌, ◌*◌, ◌/◌, ◌%◌, ◌^◌, ◌≤◌, ◌<◌, zero-le}
use native.Mathlib.Nat.{pow-suc, one-le-pow}
use native.Mathlib.Omega.{arith}
use lib.Dec.{ltb}
use Rattle.bits.specs.Sums.{tally, All}
use Rattle.bits.proofs.Least.{Least, first_least_lem}
use Rattle.cube.specs.declared.Cube.{Cube}
use Rattle.cube.specs.Cubes.{Good}
use Rattle.cube.specs.Lists.{list_value}
use Rattle.polarity.specs.Cost.{cost}
use Rattle.polarity.specs.Forms.{form_list, best_polarity}
use Rattle.polarity.proofs.Theorems.{best_is_first}
use Rattle.trees.specs.Trees.{Tree, node, davio, polarity_tree}
use Rattle.trees.specs.Least.{tree_list}
use Rattle.trees.proofs.Values.{list_value_lem, list_good}
use Rattle.trees.proofs.Polarities.{form_is_tree, form_tree_cost}
use Rattle.trees.proofs.Theorems.{no_tree_costs_less}
use Rattle.kronecker.specs.Choices.{expansion_of, choice_tree, choice_list, choice_cost, best_choice, kronecker_list, polarity_choice}

-- ---- a polarity is a choice of Davio expansions

pub polarity_inside : (n p : ℕ) → polarity_choice n p < 3 ^ n
unfolding polarity_choice
polarity_inside zero p = omega arith
polarity_inside (suc n) p = rw (pow-suc 3 n) (omega (arith, polarity_inside n (p / 2)))

-- the tree of its choice is the polarity's
pub polarity_is_choice : (n p : ℕ) → choice_tree n (polarity_choice n p) ≡ polarity_tree n p
unfolding choice_tree polarity_tree polarity_choice
polarity_is_choice zero p = refl
polarity_is_choice (suc n) p =
    let x : ℕ = polarity_choice n (p / 2) in
    let digits : ((1 + p % 2 + 3 * x) % 3 ≡ 1 + p % 2) × ((1 + p % 2 + 3 * x) / 3 ≡ x) = omega arith in
    rw (digits.0, digits.1) (at (p % 2) (omega arith) ∙ ap (λ (t : Tree n). node (davio (p % 2)) t t) (polarity_is_choice n (p / 2)))
  where
    at : (b : ℕ) → b < 2 → node (expansion_of (1 + b)) (choice_tree n (polarity_choice n (p / 2))) (choice_tree n (polarity_choice n (p / 2)))
        ≡ node (davio b) (choice_tree n (polarity_choice n (p / 2))) (choice_tree n (polarity_choice n (p / 2)))
    at zero h = refl
    at (suc zero) h = refl
    at (suc (suc b)) h = absurd (omega arith)

-- ---- the cheapest choice

module _ (n : ℕ) (f : ℕ → ℕ) where
  -- "Answer the least cost and, among those, the smallest choice": of all 3^n choices none costs less, and none that is smaller costs as much.
  pub best_is_least : Least (choice_cost n f) (3 ^ n) (best_choice n f)
  unfolding best_choice
  best_is_least = first_least_lem (choice_cost n f) (λ y x. ltb (choice_cost n f y) (choice_cost n f x)) (λ y x. refl) (3 ^ n) (one-le-pow n 3 (omega arith))

  module _ (few : n ≤ 32) where
    -- The list's cubes are good.
    pub kronecker_is_good : All (Good n) (kronecker_list n f)
    kronecker_is_good = list_good (choice_tree n (best_choice n f)) f few

    -- "not below Six's": a choice is a tree.
    pub not_below_the_tree : cost (tree_list n f) ≤ cost (kronecker_list n f)
    not_below_the_tree = no_tree_costs_less n f few (choice_tree n (best_choice n f))

    module _ (bits : (x : ℕ) → f x < 2) where
      -- The list has the function's value at every assignment.
      pub kronecker_has_the_value : (a : ℕ) → a < 2 ^ n → list_value n (kronecker_list n f) a ≡ f a
      kronecker_has_the_value = list_value_lem (choice_tree n (best_choice n f)) f few bits

      -- 002: "clearly FPRMs form a special class of KROs": the list of a polarity's choice and the polarity's form have the same products, each as often, in another order.
      pub form_is_such_a_choice : (p : ℕ) → p < 2 ^ n → (g : Cube → Bool) → tally g (choice_list n (polarity_choice n p) f) ≡ tally g (form_list n p f)
      form_is_such_a_choice p h g = rw (polarity_is_choice n p) (form_is_tree n p f few h bits g)

      -- "its cost is not above the best polarity's": nor above that of any polarity's form ..
      pub not_above_a_form : (p : ℕ) → p < 2 ^ n → cost (kronecker_list n f) ≤ cost (form_list n p f)
      not_above_a_form p h =
          let e : choice_cost n f (polarity_choice n p) ≡ cost (form_list n p f) = rw (polarity_is_choice n p) (form_tree_cost n p f few h bits) in
          omega (arith, e, best_is_least.least (polarity_choice n p) zero-le (polarity_inside n p))

      -- .. and so not above the best one's.
      pub not_above_the_best : cost (kronecker_list n f) ≤ cost (form_list n (best_polarity n f) f)
      not_above_the_best = not_above_a_form (best_polarity n f) (best_is_first n f).inside

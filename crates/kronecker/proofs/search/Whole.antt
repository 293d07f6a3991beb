-- The table of all choices' products: what is found there is the cheapest choice.
-- Assumes nothing.
use mathlib.Core.Path.{◌≡◌, sym, ap, ◌∙◌}
use mathlib.Core.List.{List, ◌++◌}
use Prim.Native.Nat.{ℕ, ◌^◌, ◌≤◌, ◌<◌}
use native.Mathlib.Omega.{arith}
use lib.ListN.{length, get_or, take, length-append}
use lib.Seq.{take_at}
use Rattle.bits.proofs.Below.{length_list_below, get_or_list_below}
use Rattle.cube.specs.Cubes.{one}
use Rattle.polarity.proofs.Ranks.{cost_most}
use Rattle.trees.proofs.Prices.{length_products, cost_tree}
use Rattle.kronecker.specs.declared.WrittenKronecker.{WrittenKronecker}
use Rattle.kronecker.specs.Choices.{choice_tree, choice_list, choice_cost, best_choice}
use Rattle.kronecker.specs.Words.{products_of, products_of_all, Covers, cost_in, FoundIn, FoundIs}
use Rattle.kronecker.proofs.search.Ranges.{cheapest_is, cheapest_alike, entry}
use Rattle.kronecker.proofs.search.Parts.{found_cheapest}

module _ (n : ℕ) (f : ℕ → ℕ) (l : List ℕ) (e : l ≡ products_of_all n f) where
  all_at : (x : ℕ) → x < 3 ^ n → get_or l x 0 ≡ products_of n f x
  unfolding products_of_all
  all_at x h = ap (λ (l : List ℕ). get_or l x 0) e ∙ get_or_list_below (3 ^ n) (products_of n f) x 0 h

  pub all_covers : Covers n f l
  unfolding products_of_all
  all_covers = record { long = ap length e ∙ length_list_below (3 ^ n) (products_of n f); at = λ x h. omega (arith, all_at x h) }

  pub found_all : n ≤ 6 → (r : WrittenKronecker) → FoundIn n f l r → FoundIs n f r
  unfolding best_choice
  found_all few r F =
      let products : (x : ℕ) → x < 3 ^ n → get_or l x 0 ≡ length (choice_list n x f) = λ x h. all_at x h ∙ sym (length_products (choice_tree n x) 0 one f) in
      let C = cheapest_alike (cost_in n f l) (entry l) (3 ^ n) r (choice_cost n f) (λ x. length (choice_list n x f))
      (λ x h. omega (arith, all_at x h, products x h, cost_tree (choice_tree n x) f (omega arith), cost_most (choice_list n x f))) products (found_cheapest n f l r F) in
      let is = cheapest_is (choice_cost n f) (λ x. length (choice_list n x f)) (3 ^ n) r C in
      record {
        choice_is = is;
        cost_is = C.cost_is ∙ ap (choice_cost n f) is;
        products_are = C.products_are ∙ ap (λ (x : ℕ). length (choice_list n x f)) is;
      }

-- in front of other entries
module _ (n m : ℕ) (f : ℕ → ℕ) (x y : List ℕ) (em : m ≡ 3 ^ n) (ex : x ≡ products_of_all n f) where
  long : length x ≡ m
  long = (all_covers n f x ex).long ∙ sym em

  pub front_is : take m (x ++ y) ≡ products_of_all n f
  front_is = take_at x y m long ∙ ex

  pub front_fits : m ≤ length (x ++ y)
  front_fits = omega (arith, length-append x y, long)

-- The cheapest tree, of a call that writes its list and was accepted: document 02, Six. "expand by variable 0, then 1 and so on, at each node by Shannon, positive Davio or
-- negative Davio. .. Find the least cost by Two's measure. .. Ties at a node go to the first of that order. Write its list, answering its products and cost .. Prove that no
-- choice of expansions in that variable order costs less." Which calls are accepted, and what the others are refused by, is demand 1.
-- Assumes nothing.
use mathlib.Core.Path.{◌≡◌, refl, sym, ap, ◌∙◌, subst}
use mathlib.Core.Bool.{Bool, true, false, ◌&&◌, cond}
use mathlib.Core.List.{List, [], ◌∷◌}
use Prim.Native.Nat.{ℕ, ◌*◌, ◌^◌, ◌≤◌, ◌<◌}
use native.Mathlib.Omega.{arith}
use borrow.Author.Tests.{leb-true, leb-false}
use lib.Dec.{leb}
use lib.ListN.{length, get_or, drop}
use Rattle.bits.specs.Sums.{All}
use Rattle.records.specs.Answers.{Outcome, accepted}
use Rattle.records.proofs.Answers.{accepted_values}
use Rattle.cube.specs.declared.Cube.{Cube}
use Rattle.cube.specs.Cubes.{Good}
use Rattle.cube.specs.Lists.{record_width, cubes_of, cube_capacity, most_variables, list_value, trues}
use Rattle.polarity.specs.Cost.{cost}
use Rattle.polarity.specs.Forms.{form_list}
use Rattle.polarity.specs.Vectors.{byte_at, Vector}
use Rattle.trees.specs.declared.Expansion.{Expansion}
use Rattle.trees.specs.declared.Expansion.TheVariants.{Shannon, Positive, Negative}
use Rattle.trees.specs.Trees.{Tree, list_of, polarity_tree}
use Rattle.trees.specs.Least.{first_least, least, through, choice, tree_list}
use Rattle.trees.proofs.Choices.{first_least_lem}
use Rattle.trees.proofs.Values.{list_value_lem, list_good}
use Rattle.trees.proofs.Theorems as trees
use Rattle.promises.specs.Calls.{value, best_polarity, write_tree, Called}
use Rattle.promises.specs.Refusals.{NoneWrong, vector_faults, faults}
use Rattle.promises.specs.Accepted.{goes_on, goes_on_leaving}
use Rattle.promises.specs.CheapestTree.{order, FirstLeast, list_in, SameProducts}
use Rattle.promises.proofs.Calling.{only}
use Rattle.promises.proofs.Chains.{none_left, none_right}
use Rattle.promises.proofs.NotWrong.{not_below, is_vector}
use Rattle.promises.proofs.DemandOne.{accepted_not_wrong, not_wrong_goes_on}
use Rattle.promises.proofs.DemandTwoCalls.{best_polarity_answers}
use Rattle.promises.proofs.WrittenList.{Wrote, list_written, no_more, of_list, value_call}

-- ---- the meaning: the expansion at a node

module _ (costs : Expansion → ℕ) where
  abbrev Before : Expansion → Type 0
  Before e = (d : Expansion) → order d < order e → costs e < costs d

  positive_first : costs Positive < costs Shannon → Before Positive
  positive_first h Shannon o = h
  positive_first h Positive o = absurd (omega arith)
  positive_first h Negative o = absurd (omega arith)

  negative_first : costs Negative < costs Shannon → costs Negative < costs Positive → Before Negative
  negative_first h k Shannon o = h
  negative_first h k Positive o = k
  negative_first h k Negative o = absurd (omega arith)

  ties_first : Before (first_least costs)
  unfolding first_least
  ties_first = go (leb (costs Shannon) (costs Positive)) (leb (costs Shannon) (costs Negative)) (leb (costs Positive) (costs Negative)) refl refl refl
    where
      go : (x y z : Bool) → leb (costs Shannon) (costs Positive) ≡ x → leb (costs Shannon) (costs Negative) ≡ y → leb (costs Positive) (costs Negative) ≡ z
          → Before (cond (x && y) Shannon (cond z Positive Negative))
      go true true z p q r = λ d o. absurd (omega arith)
      go true false true p q r = absurd (omega (arith, leb-true, leb-false))
      go true false false p q r = negative_first (omega (arith, leb-true, leb-false)) (omega (arith, leb-true, leb-false))
      go false y true p q r = positive_first (omega (arith, leb-true, leb-false))
      go false y false p q r = negative_first (omega (arith, leb-true, leb-false)) (omega (arith, leb-true, leb-false))

-- At each node the expansion taken costs least, each branch at its least, and each that comes before it costs more.
pub node_takes_first : (n : ℕ) (free : Bool) (f : ℕ → ℕ) → FirstLeast (through n free f) (choice n free f)
unfolding choice
node_takes_first n free f = record { least = first_least_lem (through n free f); first = ties_first (through n free f) }

-- ---- a call that was accepted

module _ (n : ℕ) (vector out : List ℕ) (products price : ℕ) (out' : List ℕ)
    (called : Called (write_tree n vector out) (accepted (products ∷ price ∷ [])) (out' ∷ [])) where
  abbrev tree : List Cube
  tree = tree_list n (byte_at vector)

  none : NoneWrong (faults (write_tree n vector out))
  none = accepted_not_wrong (write_tree n vector out) (accepted (products ∷ price ∷ [])) (out' ∷ []) called (products ∷ price ∷ []) refl

  is_one : Vector n vector
  unfolding faults
  is_one = is_vector n vector (none_left (vector_faults n vector) _ none)

  few : n ≤ most_variables
  few = omega (arith, is_one.few)

  room : length (tree_list n (byte_at vector)) ≤ cube_capacity (length out)
  unfolding faults
  room = not_below (length tree) (cube_capacity (length out)) (none_right (vector_faults n vector) _ none).0

  went_on : (accepted (products ∷ price ∷ []) ≡ goes_on (write_tree n vector out)) × (out' ∷ [] ≡ goes_on_leaving (write_tree n vector out))
  went_on = not_wrong_goes_on (write_tree n vector out) (accepted (products ∷ price ∷ [])) (out' ∷ []) called none

  all : products ≡ length (tree_list n (byte_at vector))
  unfolding goes_on
  all = ap (λ (v : List ℕ). get_or v 0 0) (accepted_values went_on.0)

  price_is : price ≡ cost (tree_list n (byte_at vector))
  unfolding goes_on
  price_is = ap (λ (v : List ℕ). get_or v 1 0) (accepted_values went_on.0)

  wrote : Wrote n vector out (tree_list n (byte_at vector)) products out'
  unfolding goes_on_leaving
  wrote = record { is_one = is_one; all = all; room = room; is = only went_on.1 }

  -- The list of the tree stands at the front of the output, ..
  pub tree_written : cubes_of (list_in products out') ≡ tree_list n (byte_at vector)
  tree_written = list_written n vector out tree products out' wrote

  -- .. and every byte after it is as it was.
  pub tree_no_more : drop (record_width * products) out' ≡ drop (record_width * products) out
  tree_no_more = no_more n vector out tree products out' wrote

  -- Its products are good cubes over n variables, ..
  pub tree_good : All (Good n) (cubes_of (list_in products out'))
  tree_good = of_list n vector out tree products out' wrote (All (Good n)) (trees.tree_is_good n (byte_at vector) few)

  -- .. and it has the vector's value at every assignment, ..
  pub tree_value : (a : ℕ) → a < 2 ^ n → list_value n (cubes_of (list_in products out')) a ≡ byte_at vector a
  tree_value a h =
      of_list n vector out tree products out' wrote (λ l. list_value n l a ≡ byte_at vector a) (trees.tree_has_the_value n (byte_at vector) few is_one.bits a h)

  -- .. which the value call, of the bytes that were written, answers.
  pub tree_value_call : (a : ℕ) → a < 2 ^ n → (o : Outcome) → Called (value n (list_in products out') a) o []
      → o ≡ accepted (byte_at vector a ∷ trues n (cubes_of (list_in products out')) a ∷ [])
  tree_value_call a h =
      value_call n vector out tree products out' wrote (trees.tree_is_good n (byte_at vector) few) a h (trees.tree_has_the_value n (byte_at vector) few is_one.bits a h)

  -- The number answered is that of its products, ..
  pub products_are : products ≡ length (cubes_of (list_in products out'))
  products_are = all ∙ ap length (sym tree_written)

  -- .. and the cost answered is its cost by Two's measure, ..
  pub cost_is : price ≡ cost (cubes_of (list_in products out'))
  cost_is = price_is ∙ ap cost (sym tree_written)

  -- .. which is the least that the nodes give, each "that of its two branches together".
  pub cost_is_least : price ≡ least n true (byte_at vector)
  cost_is_least = price_is ∙ trees.tree_cost_lem n (byte_at vector) few

  -- No choice of expansions in that variable order costs less ..
  pub no_choice_costs_less : (t : Tree n) → price ≤ cost (list_of t (byte_at vector))
  no_choice_costs_less t = subst (λ (k : ℕ). k ≤ cost (list_of t (byte_at vector))) (sym price_is) (trees.no_tree_costs_less n (byte_at vector) few t)

  -- .. of all that are compared: the list of each has good cubes, and the vector's value at every assignment.
  pub each_choice : (t : Tree n) → All (Good n) (list_of t (byte_at vector)) × ((a : ℕ) → a < 2 ^ n → list_value n (list_of t (byte_at vector)) a ≡ byte_at vector a)
  each_choice t = (list_good t (byte_at vector) few, list_value_lem t (byte_at vector) few is_one.bits)

  -- Every polarity's form is among them: with negative Davio at the variables that appear only complemented, and positive Davio at the others, a tree has its products, each
  -- as often, in another order; ..
  pub form_is_such_a_tree : (p : ℕ) → p < 2 ^ n → SameProducts (list_of (polarity_tree n p) (byte_at vector)) (form_list n p (byte_at vector))
  form_is_such_a_tree = trees.form_is_such_a_tree n (byte_at vector) few is_one.bits

  -- .. so that the cost answered is not above that of any polarity's form, ..
  pub not_above_a_form : (p : ℕ) → p < 2 ^ n → price ≤ cost (form_list n p (byte_at vector))
  not_above_a_form p h = subst (λ (k : ℕ). k ≤ cost (form_list n p (byte_at vector))) (sym price_is) (trees.not_above_a_form n (byte_at vector) few is_one.bits p h)

  -- .. nor above that of the best one, which the call of that name answers.
  pub not_above_the_best : (p k : ℕ) → Called (best_polarity n vector) (accepted (p ∷ k ∷ [])) [] → price ≤ cost (form_list n p (byte_at vector))
  not_above_the_best p k c = not_above_a_form p (best_polarity_answers n vector p k c).0.inside

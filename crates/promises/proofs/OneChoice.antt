-- One choice for each variable, of a call that writes the list of the cheapest and was accepted: document 02, Ten. "all 3^n choices, digit 0 Shannon, 1 positive Davio, 2
-- negative Davio, variable 0 the lowest digit. Answer the least cost and, among those, the smallest choice, and write that list in Six's order. Prove that none of the choices
-- costs less, that its cost is not above the best polarity's and not below Six's." Which calls are accepted, and what the others are refused by, is demand 1.
-- Assumes nothing.
use mathlib.Core.Path.{◌≡◌, refl, sym, ap, ap₂, ◌∙◌, subst, fun_ext}
use mathlib.Core.List.{List, [], ◌∷◌}
use Prim.Native.Nat.{ℕ, zero, suc, ◌+◌, ◌*◌, ◌/◌, ◌%◌, ◌^◌, ◌≤◌, ◌<◌, zero-le}
use native.Mathlib.Nat.{pow-suc, pow-succ', mul_assoc, div-one, div-div-eq-div-mul}
use native.Mathlib.Omega.{arith}
use lib.ListN.{length, get_or, drop}
use Rattle.bits.specs.Below.{sum_below}
use Rattle.bits.specs.Sums.{All}
use Rattle.records.specs.Answers.{Outcome, accepted}
use Rattle.records.proofs.Answers.{accepted_values}
use Rattle.cube.specs.Cubes.{Good}
use Rattle.cube.specs.Lists.{record_width, cubes_of, cube_capacity, most_variables, list_value, trues}
use Rattle.polarity.specs.Cost.{cost}
use Rattle.polarity.specs.Forms.{form_list}
use Rattle.polarity.specs.Vectors.{byte_at, Vector}
use Rattle.trees.specs.declared.Expansion.{Expansion}
use Rattle.trees.specs.declared.Expansion.TheVariants.{Shannon, Positive, Negative}
use Rattle.trees.specs.Trees.{Tree, leaf, node}
use Rattle.trees.proofs.Values.{list_value_lem, list_good}
use Rattle.kronecker.specs.Choices.{expansion_of, choice_tree, choice_list, best_choice, kronecker_list, polarity_choice}
use Rattle.kronecker.proofs.Theorems as kronecker
use Rattle.promises.specs.Calls.{value, best_polarity, write_tree, write_kronecker, Called}
use Rattle.promises.specs.Refusals.{NoneWrong, vector_faults, faults}
use Rattle.promises.specs.Accepted.{goes_on, goes_on_leaving}
use Rattle.promises.specs.CheapestTree.{order, list_in, SameProducts}
use Rattle.promises.specs.OneChoice.{OneForEach, digit_of, choice_of}
use Rattle.promises.proofs.Calling.{only}
use Rattle.promises.proofs.Chains.{none_left, none_right}
use Rattle.promises.proofs.NotWrong.{not_below, is_vector}
use Rattle.promises.proofs.DemandOne.{accepted_not_wrong, not_wrong_goes_on}
use Rattle.promises.proofs.DemandTwoCalls.{best_polarity_answers}
use Rattle.promises.proofs.WrittenList.{Wrote, list_written, no_more, of_list, value_call}
use Rattle.promises.proofs.CheapestTree as cheapest

-- ---- the meaning: choices and trees

-- the digits above the lowest
digit_above : (x k : ℕ) → digit_of (x / 3) k ≡ digit_of x (suc k)
digit_above x k = ap (λ (q : ℕ). q % 3) (div-div-eq-div-mul x 3 (3 ^ k) ∙ ap (λ (p : ℕ). x / p) (sym (pow-succ' 3 k)))

-- The tree of a choice has one expansion for each variable: at every node of variable k that of its digit k.
pub choice_for_each : (n x : ℕ) → OneForEach (λ k. expansion_of (digit_of x k)) (choice_tree n x)
unfolding choice_tree
choice_for_each zero x = tt
choice_for_each (suc n) x =
    let above : OneForEach (λ k. expansion_of (digit_of x (suc k))) (choice_tree n (x / 3)) =
    subst (λ (e : ℕ → Expansion). OneForEach e (choice_tree n (x / 3))) (fun_ext (λ k. ap expansion_of (digit_above x k))) (choice_for_each n (x / 3)) in
    (ap (λ (q : ℕ). expansion_of (q % 3)) (sym (div-one x)), above, above)

order_lt : (e : Expansion) → order e < 3
order_lt Shannon = omega arith
order_lt Positive = omega arith
order_lt Negative = omega arith

of_order : (e : Expansion) → expansion_of (order e) ≡ e
of_order Shannon = refl
of_order Positive = refl
of_order Negative = refl

-- variable 0's digit, and the others
choice_parts : (n : ℕ) (e : ℕ → Expansion) → choice_of (suc n) e ≡ order (e 0) + choice_of n (λ k. e (suc k)) * 3
unfolding sum_below
choice_parts zero e = omega arith
choice_parts (suc n) e =
    let last : order (e (suc n)) * 3 ^ suc n ≡ order (e (suc n)) * 3 ^ n * 3 = ap (λ (p : ℕ). order (e (suc n)) * p) (pow-suc 3 n) ∙ sym (mul_assoc (order (e (suc n))) (3 ^ n) 3) in
    omega (arith, choice_parts n e, last)

-- Every tree that has one expansion for each variable is that of a choice below 3^n: so all of them are compared.
pub each_is_choice : {n : ℕ} (t : Tree n) (e : ℕ → Expansion) → OneForEach e t → (choice_tree n (choice_of n e) ≡ t) × (choice_of n e < 3 ^ n)
unfolding choice_tree sum_below
each_is_choice leaf e o = (refl, omega arith)
each_is_choice (node {n} x t u) e o =
    let rest : ℕ → Expansion = λ k. e (suc k) in
    let T = each_is_choice t rest o.1 in
    let U = each_is_choice u rest o.2 in
    let d : ℕ = order (e 0) in
    let y : ℕ = choice_of n rest in
    let p : choice_of (suc n) e ≡ d + y * 3 = choice_parts n e in
    let low : choice_of (suc n) e % 3 ≡ d = omega (arith, p, order_lt (e 0)) in
    let high : choice_of (suc n) e / 3 ≡ y = omega (arith, p, order_lt (e 0)) in (
      ap₂ (λ (q z : ℕ). node (expansion_of q) (choice_tree n z) (choice_tree n z)) low high
          ∙ (λ i. node ((of_order (e 0) ∙ sym o.0) i) (T.0 i) (U.0 i)),
      rw (pow-suc 3 n) (omega (arith, p, T.1, order_lt (e 0))),
    )

-- ---- a call that was accepted

module _ (n : ℕ) (vector out : List ℕ) (price choice products : ℕ) (out' : List ℕ)
    (called : Called (write_kronecker n vector out) (accepted (price ∷ choice ∷ products ∷ [])) (out' ∷ [])) where
  abbrev f : ℕ → ℕ
  f = byte_at vector

  none : NoneWrong (faults (write_kronecker n vector out))
  none = accepted_not_wrong (write_kronecker n vector out) (accepted (price ∷ choice ∷ products ∷ [])) (out' ∷ []) called (price ∷ choice ∷ products ∷ []) refl

  is_one : Vector n vector
  unfolding faults
  is_one = is_vector n vector (none_left (vector_faults n vector) _ none.1)

  few : n ≤ most_variables
  few = omega (arith, is_one.few)

  went_on : (accepted (price ∷ choice ∷ products ∷ []) ≡ goes_on (write_kronecker n vector out)) × (out' ∷ [] ≡ goes_on_leaving (write_kronecker n vector out))
  went_on = not_wrong_goes_on (write_kronecker n vector out) (accepted (price ∷ choice ∷ products ∷ [])) (out' ∷ []) called none

  price_is : price ≡ cost (kronecker_list n (byte_at vector))
  unfolding goes_on
  price_is = ap (λ (v : List ℕ). get_or v 0 0) (accepted_values went_on.0)

  choice_is : choice ≡ best_choice n (byte_at vector)
  unfolding goes_on
  choice_is = ap (λ (v : List ℕ). get_or v 1 0) (accepted_values went_on.0)

  wrote : Wrote n vector out (kronecker_list n (byte_at vector)) products out'
  unfolding faults goes_on goes_on_leaving
  wrote = record {
    is_one = is_one;
    all = ap (λ (v : List ℕ). get_or v 2 0) (accepted_values went_on.0);
    room = not_below (length (kronecker_list n f)) (cube_capacity (length out)) (none_right (vector_faults n vector) _ none.1).0;
    is = only went_on.1;
  }

  -- The choice answered is one of the 3^n, ..
  pub choice_inside : choice < 3 ^ n
  choice_inside = rw choice_is (kronecker.best_is_least n f).inside

  -- .. and its list stands at the front of the output; ..
  pub kronecker_written : cubes_of (list_in products out') ≡ choice_list n choice (byte_at vector)
  kronecker_written = list_written n vector out (kronecker_list n f) products out' wrote ∙ ap (λ (x : ℕ). choice_list n x f) (sym choice_is)

  -- .. every byte after it is as it was.
  pub kronecker_no_more : drop (record_width * products) out' ≡ drop (record_width * products) out
  kronecker_no_more = no_more n vector out (kronecker_list n f) products out' wrote

  -- Its products are good cubes over n variables, ..
  pub kronecker_good : All (Good n) (cubes_of (list_in products out'))
  kronecker_good = of_list n vector out (kronecker_list n f) products out' wrote (All (Good n)) (kronecker.kronecker_is_good n f few)

  -- .. and it has the vector's value at every assignment, ..
  pub kronecker_value : (a : ℕ) → a < 2 ^ n → list_value n (cubes_of (list_in products out')) a ≡ byte_at vector a
  kronecker_value a h =
      of_list n vector out (kronecker_list n f) products out' wrote (λ l. list_value n l a ≡ byte_at vector a) (kronecker.kronecker_has_the_value n f few is_one.bits a h)

  -- .. which the value call, of the bytes that were written, answers.
  pub kronecker_value_call : (a : ℕ) → a < 2 ^ n → (o : Outcome) → Called (value n (list_in products out') a) o []
      → o ≡ accepted (byte_at vector a ∷ trues n (cubes_of (list_in products out')) a ∷ [])
  kronecker_value_call a h =
      value_call n vector out (kronecker_list n f) products out' wrote (kronecker.kronecker_is_good n f few) a h (kronecker.kronecker_has_the_value n f few is_one.bits a h)

  -- The number of products answered is that of the list, ..
  pub products_are : products ≡ length (cubes_of (list_in products out'))
  products_are = of_list n vector out (kronecker_list n f) products out' wrote (λ l. products ≡ length l) wrote.all

  -- .. and the cost answered is its cost by Two's measure.
  pub cost_is : price ≡ cost (cubes_of (list_in products out'))
  cost_is = of_list n vector out (kronecker_list n f) products out' wrote (λ l. price ≡ cost l) price_is

  -- None of the 3^n choices costs less, ..
  pub none_costs_less : (x : ℕ) → x < 3 ^ n → price ≤ cost (choice_list n x (byte_at vector))
  none_costs_less x h = rw price_is ((kronecker.best_is_least n f).least x zero-le h)

  -- .. and each that is smaller than the one answered costs more.
  pub smaller_costs_more : (x : ℕ) → x < choice → price < cost (choice_list n x (byte_at vector))
  smaller_costs_more x h = rw price_is ((kronecker.best_is_least n f).smallest x zero-le (rw choice_is at h))

  -- Of all that are compared the list has good cubes, and the vector's value at every assignment.
  pub lists_compared : (x : ℕ) → All (Good n) (choice_list n x (byte_at vector)) × ((a : ℕ) → a < 2 ^ n → list_value n (choice_list n x (byte_at vector)) a ≡ byte_at vector a)
  lists_compared x = (list_good (choice_tree n x) f few, list_value_lem (choice_tree n x) f few is_one.bits)

  -- Every polarity's form is among them, by a choice of Davio expansions alone: it has the products of the choice's list, each as often, in another order; ..
  pub form_is_such_a_choice : (p : ℕ) → p < 2 ^ n
      → (polarity_choice n p < 3 ^ n) × SameProducts (choice_list n (polarity_choice n p) (byte_at vector)) (form_list n p (byte_at vector))
  form_is_such_a_choice p h = (kronecker.polarity_inside n p, kronecker.form_is_such_a_choice n f few is_one.bits p h)

  -- .. so that the cost answered is not above that of any polarity's form, ..
  pub not_above_a_form : (p : ℕ) → p < 2 ^ n → price ≤ cost (form_list n p (byte_at vector))
  not_above_a_form p h = rw price_is (kronecker.not_above_a_form n f few is_one.bits p h)

  -- .. nor above that of the best one, which the call of that name answers; ..
  pub not_above_the_best : (p k : ℕ) → Called (best_polarity n vector) (accepted (p ∷ k ∷ [])) [] → price ≤ cost (form_list n p (byte_at vector))
  not_above_the_best p k c = not_above_a_form p (best_polarity_answers n vector p k c).0.inside

  -- .. and it is not below the cost that the call of the cheapest tree answers.
  pub not_below_the_tree : (room room' : List ℕ) (count least : ℕ) → Called (write_tree n vector room) (accepted (count ∷ least ∷ [])) (room' ∷ []) → least ≤ price
  not_below_the_tree room room' count least c = rw price_is (cheapest.no_choice_costs_less n vector room count least room' c (choice_tree n (best_choice n f)))

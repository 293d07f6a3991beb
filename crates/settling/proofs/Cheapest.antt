-- The list to burn is one of the candidates, and none ranks lower; for few variables the form of the best polarity and the tree's list have the value, no
-- polarity's form ranks lower, and no tree costs less. What ranks no higher costs no more and has no more products (`polarity/proofs/Ranks.antt`).
-- Assumes nothing.
use mathlib.Core.Path.{◌≡◌, refl, sym, ap, ◌∙◌, subst}
use mathlib.Core.Bool.{Bool, true, false, cond}
use mathlib.Core.List.{List}
use Prim.Native.Nat.{ℕ, suc, ◌^◌, ◌≤◌, ◌<◌, zero-le}
use native.Mathlib.Nat.{le_trans, le_refl, le_of_lt}
use native.Mathlib.Omega.{arith}
use borrow.Author.Tests.{leb-true, le-leb, ltb-true, ltb-false}
use lib.Bits.{bit_xor, xor_lt}
use lib.Dec.{leb, ltb}
use lib.ListN.{length}
use Rattle.bits.specs.Below.{first_below, LeastThen}
use Rattle.bits.proofs.Below.{get_or_list_below}
use Rattle.cube.specs.declared.Cube.{Cube}
use Rattle.cube.specs.Cubes.{one}
use Rattle.cube.specs.Lists.{vector_variables, list_value, truth_vector}
use Rattle.polarity.specs.Cost.{cost, cheaper}
use Rattle.polarity.specs.Forms.{coefficient, form_list}
use Rattle.polarity.specs.Ranks.{rank}
use Rattle.polarity.specs.Vectors.{byte_at}
use Rattle.polarity.proofs.Forms.{form_cong}
use Rattle.polarity.proofs.Parities.{parity_cong}
use Rattle.polarity.proofs.Ranks.{rank_cost, rank_products, cheaper_rank, first_ranks, least_first}
use Rattle.polarity.proofs.Theorems.{form_has_the_value, best_has_least_rank}
use Rattle.trees.specs.Trees.{Tree, list_of}
use Rattle.trees.proofs.Theorems.{tree_has_the_value, no_tree_costs_less}
use Rattle.trees.proofs.Values.{products_cong}
use Rattle.settling.specs.Candidates.{best_of, best_form, tree_form, better, burned_list, candidate_at, candidate_count}
use Rattle.settling.proofs.Forming.{truth_vector_is}

-- ---- the list to burn has the least rank

module _ (earlier later : List Cube) where
  better_least_earlier : rank (better earlier later) ≤ rank earlier
  better_least_earlier = go (cheaper later earlier) (cheaper_rank later earlier)
    where
      go : (b : Bool) → b ≡ ltb (rank later) (rank earlier) → rank (cond b later earlier) ≤ rank earlier
      go true e = le_of_lt (ltb-true (rank later) (rank earlier) (sym e))
      go false e = le_refl (rank earlier)

  better_least_later : rank (better earlier later) ≤ rank later
  better_least_later = go (cheaper later earlier) (cheaper_rank later earlier)
    where
      go : (b : Bool) → b ≡ ltb (rank later) (rank earlier) → rank (cond b later earlier) ≤ rank later
      go true e = le_refl (rank later)
      go false e = ltb-false (rank later) (rank earlier) (sym e)

module _ (n : ℕ) (result given : List Cube) where
  -- the best of the first three
  abbrev three : List Cube
  three = better (better result given) (best_form n given)

  -- no greater than the best of the first two has
  least_of_two : rank (burned_list n result given) ≤ rank (better result given)
  unfolding burned_list
  least_of_two = go (leb n vector_variables)
    where
      go : (b : Bool) → rank (cond b (better three (tree_form n given)) (better result given)) ≤ rank (better result given)
      go true = le_trans (better_least_earlier three (tree_form n given)) (better_least_earlier (better result given) (best_form n given))
      go false = le_refl (rank (better result given))

  -- It ranks no higher than the given list ..
  pub burned_given : rank (burned_list n result given) ≤ rank given
  burned_given = le_trans least_of_two (better_least_later result given)

  -- .. nor than the list the script ends in ..
  pub burned_result : rank (burned_list n result given) ≤ rank result
  burned_result = le_trans least_of_two (better_least_earlier result given)

  -- .. nor, for few variables, than the form of the best polarity ..
  burned_few : n ≤ vector_variables → burned_list n result given ≡ better three (tree_form n given)
  unfolding burned_list
  burned_few h = ap (λ (b : Bool). cond b (better three (tree_form n given)) (better result given)) (le-leb n vector_variables h)

  burned_best_form : n ≤ vector_variables → rank (burned_list n result given) ≤ rank (best_form n given)
  burned_best_form h =
      rw (burned_few h) (le_trans (better_least_earlier three (tree_form n given)) (better_least_later (better result given) (best_form n given)))

  -- .. nor than the tree's list.
  burned_tree_form : n ≤ vector_variables → rank (burned_list n result given) ≤ rank (tree_form n given)
  burned_tree_form h = rw (burned_few h) (better_least_later three (tree_form n given))

  -- So it has no more products than the given list.
  pub burned_le_given : length (burned_list n result given) ≤ length given
  burned_le_given = rank_products _ _ burned_given

  -- it is one of them
  pub burned_one : (P : List Cube → Type 0) → P result → P given → (n ≤ vector_variables → P (best_form n given)) → (n ≤ vector_variables → P (tree_form n given))
      → P (burned_list n result given)
  unfolding burned_list
  burned_one P x y z t = go (leb n vector_variables) refl
    where
      pick : (b : Bool) (earlier later : List Cube) → P earlier → P later → P (cond b later earlier)
      pick true earlier later p q = q
      pick false earlier later p q = p

      go : (b : Bool) → leb n vector_variables ≡ b → P (cond b (better three (tree_form n given)) (better result given))
      go true e =
          pick (cheaper (tree_form n given) three) three (tree_form n given)
          (pick (cheaper (best_form n given) (better result given)) (better result given) (best_form n given)
          (pick (cheaper given result) result given x y) (z (leb-true n vector_variables e)))
          (t (leb-true n vector_variables e))
      go false e = pick (cheaper given result) result given x y

-- ---- the list to burn is the first of the candidates

module _ (n : ℕ) (result given : List Cube) where
  abbrev at : ℕ → List Cube
  at = candidate_at n result given

  pub first : ℕ → ℕ
  first m = first_below (λ q p. cheaper (at q) (at p)) m

  at_next : (m : ℕ) → at (first (suc m)) ≡ better (at (first m)) (at m)
  unfolding first first_below
  at_next m = go (cheaper (at m) (at (first m)))
    where
      go : (b : Bool) → at (cond b m (first m)) ≡ cond b (at m) (at (first m))
      go true = refl
      go false = refl

  at_one : at (first 1) ≡ result
  unfolding first first_below
  at_one = at_next 0 ∙ go (cheaper result result)
    where
      go : (b : Bool) → cond b result result ≡ result
      go true = refl
      go false = refl

  pub burned_at_lem : burned_list n result given ≡ at (first (candidate_count n))
  unfolding burned_list
  burned_at_lem = go (leb n vector_variables)
    where
      two : at (first 2) ≡ better result given
      two = at_next 1 ∙ ap (λ (l : List Cube). better l given) at_one

      go : (b : Bool) → cond b (better (better (better result given) (best_form n given)) (tree_form n given)) (better result given) ≡ at (first (cond b 4 2))
      go true =
          sym (at_next 3 ∙ ap (λ (l : List Cube). better l (tree_form n given)) (at_next 2 ∙ ap (λ (l : List Cube). better l (best_form n given)) two))
      go false = sym two

  pub burned_first : LeastThen (λ k. cost (at k)) (λ k. length (at k)) (candidate_count n) (first (candidate_count n))
  unfolding first
  burned_first = go (leb n vector_variables)
    where
      go : (b : Bool) → LeastThen (λ k. cost (at k)) (λ k. length (at k)) (cond b 4 2) (first (cond b 4 2))
      go true = least_first at 4 (first 4) (first_ranks at 3)
      go false = least_first at 2 (first 2) (first_ranks at 1)

-- ---- the function of a list, by its truth vector

module _ (n : ℕ) (given : List Cube) (few : n ≤ vector_variables) where
  vector_at : (a : ℕ) → a < 2 ^ n → byte_at (truth_vector n given) a ≡ list_value n given a
  vector_at a h = get_or_list_below (2 ^ n) (list_value n given) a 0 h

  pub best_form_value : (a : ℕ) → a < 2 ^ n → list_value n (best_form n given) a ≡ list_value n given a
  unfolding best_form
  best_form_value a h =
      form_has_the_value n (best_of n given) (byte_at (truth_vector n given)) (truth_vector_is n given few).bits
      (best_has_least_rank n (byte_at (truth_vector n given))).inside a h
      ∙ vector_at a h

  form_of : (p : ℕ) → p < 2 ^ n → form_list n p (byte_at (truth_vector n given)) ≡ form_list n p (list_value n given)
  form_of p h =
      form_cong n p (coefficient n p (byte_at (truth_vector n given))) (coefficient n p (list_value n given)) (λ s b.
      parity_cong n (λ t. byte_at (truth_vector n given) (bit_xor t p)) (λ t. list_value n given (bit_xor t p)) s (λ t c. vector_at (bit_xor t p) (xor_lt n t p c h)))

  -- No polarity's form ranks lower.
  pub burned_form : (result : List Cube) (p : ℕ) → p < 2 ^ n → rank (burned_list n result given) ≤ rank (form_list n p (list_value n given))
  unfolding best_form
  burned_form result p h =
      le_trans (burned_best_form n result given few)
      (subst (λ (l : List Cube). rank (best_form n given) ≤ rank l) (form_of p h) ((best_has_least_rank n (byte_at (truth_vector n given))).least p zero-le h))

  -- ---- trees

  pub tree_form_value : (a : ℕ) → a < 2 ^ n → list_value n (tree_form n given) a ≡ list_value n given a
  unfolding tree_form
  tree_form_value a h =
      tree_has_the_value n (byte_at (truth_vector n given)) (omega (arith, few)) (truth_vector_is n given few).bits a h ∙ vector_at a h

  -- No tree costs less.
  pub burned_tree : (result : List Cube) (t : Tree n) → cost (burned_list n result given) ≤ cost (list_of t (list_value n given))
  unfolding tree_form
  burned_tree result t =
      le_trans (rank_cost _ _ (burned_tree_form n result given few))
      (subst (λ (l : List Cube). cost (tree_form n given) ≤ cost l) (products_cong t 0 one _ _ vector_at)
      (no_tree_costs_less n (byte_at (truth_vector n given)) (omega (arith, few)) t))

-- The truth vector of a list, its best polarity, and what the tree's list counts.
-- Assumes nothing.
use mathlib.Core.Path.{◌≡◌, sym, ap, ap₂, ◌∙◌, subst}
use mathlib.Core.Bool.{Bool, cond}
use mathlib.Core.List.{List, [], ◌∷◌, ◌++◌, append-nil}
use Prim.Native.Nat.{ℕ, ◌^◌, ◌≤◌, ◌<◌}
use native.Mathlib.Omega.{arith}
use borrow.Author.Tests.{le-leb, lt-leb}
use lib.Dec.{leb}
use lib.ListN.{length, drop_of_length-le}
use lib.Seq.{take_at}
use Rattle.std.specs.Prelude.{Some, None, Result, Ok, Err}
use Rattle.std.specs.Result.{result_ok}
use Rattle.bits.proofs.Below.{length_list_below}
use Rattle.polarity.specs.declared.BestPolarity.{BestPolarity}
use Rattle.records.specs.declared.Refusal.{Refusal}
use Rattle.records.specs.Answers.{accepted, Accepts}
use Rattle.records.proofs.Answers.{not_both, unless_accepted, and_then_lem, after_accepted}
use Rattle.cube.specs.declared.Cube.{Cube}
use Rattle.cube.specs.Lists.{cubes, cubes_of, list_value, truth_vector, most_variables, vector_variables}
use Rattle.cube.specs.Calls.{check_list_of, check_list, vector_outcome, vector_after}
use Rattle.cube.proofs.Lists.{check_accepts}
use Rattle.polarity.specs.declared.Counts.{Counts}
use Rattle.polarity.specs.Forms.{best_polarity, size}
use Rattle.polarity.specs.Ranks.{counts_of}
use Rattle.polarity.specs.Vectors.{byte_at, Vector}
use Rattle.polarity.specs.Calls.{best_outcome, found}
use Rattle.trees.specs.Least.{tree_list}
use Rattle.settling.specs.declared.Forms.{Forms}
use Rattle.settling.specs.Candidates.{best_of, best_form, tree_form, fixed_of}
use Rattle.settling.specs.Choice.{FormsAre, FormIs}
use Rattle.settling.proofs.Forming.{truth_vector_is, vector_accepted}

module _ (n : ℕ) (list : List ℕ) (p : Accepts (check_list vector_variables n list)) where
  few : n ≤ vector_variables
  few = (check_accepts cubes vector_variables n list p.values p.is).few

  pub vector_written : (v v' : List ℕ) → length v ≡ 2 ^ n → v' ≡ vector_after n list v → v' ≡ truth_vector n (cubes_of list)
  unfolding vector_after vector_outcome
  vector_written v v' e e' =
      let room : 2 ^ n ≤ length v = omega arith in
      let is : vector_outcome n list (length v) ≡ accepted (2 ^ n ∷ []) = and_then_lem _ _ p.values p.is ∙ simp (le-leb _ _ room) in
      e' ∙ after_accepted _ _ v _ is
      ∙ ap (λ (t : List ℕ). truth_vector n (cubes_of list) ++ t) (drop_of_length-le v {i = 2 ^ n} (omega arith)) ∙ append-nil (truth_vector n (cubes_of list))

  module _ (v : List ℕ) (ev : v ≡ truth_vector n (cubes_of list)) where
    pub vector_is_vector : Vector n v
    vector_is_vector = subst (Vector n) (sym ev) (truth_vector_is n (cubes_of list) few)

    best_is_found : best_outcome n v ≡ accepted (best_of n (cubes_of list) ∷ length (best_form n (cubes_of list)) ∷ [])
    unfolding best_outcome best_form
    best_is_found =
        and_then_lem _ _ _ (vector_accepted n v vector_is_vector)
        ∙ ap (λ (t : List ℕ). accepted (best_polarity n (byte_at t) ∷ size n (best_polarity n (byte_at t)) (byte_at t) ∷ [])) ev

    -- it is found, never refused
    pub best_polarity_found : (r : Result BestPolarity Refusal) → found r ≡ best_outcome n v → result_ok r ≡ fixed_of n (cubes_of list)
    unfolding fixed_of
    best_polarity_found (Ok best) e =
        let both : accepted (best.polarity ∷ best.products ∷ []) ≡ accepted (best_of n (cubes_of list) ∷ length (best_form n (cubes_of list)) ∷ []) = e ∙ best_is_found in
        let ep : best.polarity ≡ best_of n (cubes_of list) = cc in
        let es : best.products ≡ length (best_form n (cubes_of list)) = cc in
        ap₂ (λ (p size : ℕ). Some (record { polarity = p; products = size })) ep es
        ∙ sym (ap (λ (b : Bool). cond b (Some (record { polarity = best_of n (cubes_of list); products = length (best_form n (cubes_of list)) })) None) (le-leb _ _ few))
    best_polarity_found (Err why) e = absurd (not_both (sym best_is_found ∙ sym e))

-- ---- the vector and its best polarity together

-- fewer variables pass the stricter check
pub passed_few : (n : ℕ) (list : List ℕ) → Accepts (check_list most_variables n list) → n ≤ vector_variables → Accepts (check_list vector_variables n list)
unfolding check_list_of
passed_few n list p h =
    let q = unless_accepted (leb n most_variables) 1 0 _ p.values p.is in
    record { values = p.values; is = simp (le-leb _ _ h) q.1 }

module _ (n : ℕ) (given : List Cube) where
  pub form_absent : vector_variables < n → (c : Counts) (v : List ℕ) → FormIs n given (record { fixed = None; tree = c; vector = v })
  unfolding fixed_of
  form_absent h c v = record {
    fixed = sym (ap (λ (t : Bool). cond t (Some (record { polarity = best_of n given; products = length (best_form n given) })) None) (lt-leb n vector_variables h));
    tree = λ few. absurd (omega arith);
    vector = λ few. absurd (omega arith);
  }

  -- what the tree's list of the vector counts
  pub tree_counted : (v : List ℕ) → v ≡ truth_vector n given → (c : Counts) → c ≡ counts_of (tree_list n (byte_at v)) → c ≡ counts_of (tree_form n given)
  unfolding tree_form
  tree_counted v ev c ec = ec ∙ ap (λ (t : List ℕ). counts_of (tree_list n (byte_at t))) ev

  pub form_found : (f : Forms) → FormsAre n given f → (v rest : List ℕ) → v ≡ truth_vector n given
      → FormIs n given (record { fixed = f.fixed; tree = f.tree; vector = v ++ rest })
  form_found f F v rest ev = record {
    fixed = F.fixed;
    tree = λ few. F.tree;
    vector = λ few. take_at v rest (2 ^ n) (ap length ev ∙ length_list_below (2 ^ n) (list_value n given)) ∙ ev;
  }

-- What a list and a form count; the better of two candidates stands for the better list, and the candidates in turn stand for the list to burn.
-- Assumes nothing.
use mathlib.Core.Bool.{Bool, not, true, false, cond}
use mathlib.Core.List.{List, [], ◌∷◌}
use mathlib.Core.Path.{◌≡◌, refl, sym, ap, ◌∙◌, ap₂, subst}
use Prim.Native.Nat.{ℕ, zero, suc, ◌/◌, ◌%◌, ◌^◌, ◌≤◌, ◌<◌}
use native.Mathlib.Nat.{mod-eq_of_lt}
use native.Mathlib.Omega.{arith}
use borrow.Author.Tests.{lt-ltb, le-ltb, leb-true}
use lib.Dec.{eqb, ltb, leb}
use lib.ListN.{length, take}
use lib.Pow.{pow_pos, pow_mono}
use lib.Seq.{get_or-take}
use lib.Bits.{bit_xor}
use Rattle.std.specs.Prelude.{Option, Some, None}
use Rattle.records.proofs.Counting.{Counting, counted_all}
use Rattle.records.proofs.Records.{length_list}
use Rattle.cube.specs.Lists.{cubes, cubes_of, record_width, vector_variables, truth_vector}
use Rattle.cube.specs.declared.Cube.{Cube}
use Rattle.cube.specs.Cubes.{bare}
use Rattle.polarity.specs.Forms.{parity_within, coefficient, form_list}
use Rattle.polarity.specs.Ranks.{counts_of, rank_of, rank}
use Rattle.polarity.specs.Vectors.{byte_at, Vector}
use Rattle.polarity.specs.declared.BestPolarity.{BestPolarity}
use Rattle.polarity.specs.declared.Counts.{Counts}
use Rattle.polarity.proofs.Forms.{form_counts, form_most}
use Rattle.polarity.proofs.Parities.{parity_zero, parity_low, parity_lt}
use Rattle.polarity.proofs.Ranks.{cheaper_rank}
use Rattle.polarity.proofs.Theorems.{best_has_least_rank}
use Rattle.settling.specs.Calls.{fixed_values}
use Rattle.settling.specs.Candidates.{best_of, best_form, tree_form, better, burned_list, fixed_of}
use Rattle.settling.specs.Choice.{FormCounts, candidate_of, better_of, StandsFor, FormIs}
use Rattle.settling.specs.declared.BestForm.{BestForm}
use Rattle.settling.specs.declared.Candidate.{Candidate}
use Rattle.settling.specs.declared.Origin.{Origin}
use Rattle.settling.specs.declared.Origin.TheVariants as origin_is
use Rattle.settling.proofs.Forming.{truth_vector_is}

pub list_counted : (list : List ℕ) (t i : ℕ) → Counting cubes bare list t i → length list / record_width ≤ i
    → record { products = length list / record_width; constant = ltb 0 t } ≡ counts_of (cubes_of list)
unfolding counts_of
list_counted list t i C h = λ k. record { products = sym (length_list cubes list) k; constant = ltb 0 (counted_all cubes bare list t i C h k) }

-- the coefficient of the empty set is the first byte
parity_empty : (n : ℕ) (f : ℕ → ℕ) → parity_within n f 0 ≡ f 0 % 2
parity_empty zero f = parity_zero f 0
parity_empty (suc n) f = parity_low n f 0 (pow_pos n) ∙ parity_empty n f

pub form_counted : (v : List ℕ) (p size : ℕ) → FormCounts v p size (record { products = size; constant = not (eqb (byte_at v p) 0) })
unfolding counts_of
form_counted v p size n vec h es =
    let w : List ℕ = take (2 ^ n) v in
    let first : coefficient n p (byte_at w) 0 ≡ byte_at v p = parity_empty n _ ∙ mod-eq_of_lt (vec.bits p) ∙ get_or-take (2 ^ n) v p 0 h in
    let counts = form_counts n p (coefficient n p (byte_at w)) (parity_lt n (λ t. byte_at w (bit_xor t p))) in
    λ k. record { products = es k; constant = (ap (λ (x : ℕ). not (eqb x 0)) (sym first) ∙ ap (λ (c : Counts). c.constant) (sym counts)) k }

-- ---- the better of two

module _ (earlier later : Candidate) where
  pub later_better : later.rank < earlier.rank → later ≡ better_of earlier later
  later_better h = sym (ap (λ (b : Bool). cond b later earlier) (lt-ltb _ _ h))

  pub earlier_better : earlier.rank ≤ later.rank → earlier ≡ better_of earlier later
  earlier_better h = sym (ap (λ (b : Bool). cond b later earlier) (le-ltb _ _ h))

pub candidate_is : (counts : Counts) (origin : Origin) (r : ℕ) → r ≡ rank_of counts → record { rank = r; origin = origin } ≡ candidate_of counts origin
candidate_is counts origin r e = ap (λ (x : ℕ). record { rank = x; origin = origin }) e

-- ---- the form of the best polarity

abbrev best_as : ℕ → ℕ → Option BestPolarity
best_as p size = Some (record { polarity = p; products = size })

module _ (n : ℕ) (given : List Cube) (best : BestForm) (F : FormIs n given best) (p size : ℕ) (e : best.fixed ≡ best_as p size) where
  record Found : Type 0 where
    few : n ≤ vector_variables
    there : leb n vector_variables ≡ true
    p_is : p ≡ best_of n given
    size_is : size ≡ length (best_form n given)

  found : Found
  unfolding fixed_of
  found = go (leb n vector_variables) refl (sym e ∙ F.fixed)
    where
      go : (b : Bool) → leb n vector_variables ≡ b
          → best_as p size ≡ cond b (best_as (best_of n given) (length (best_form n given))) None → Found
      go true t z =
          let both : p ∷ size ∷ [] ≡ best_of n given ∷ length (best_form n given) ∷ [] = ap fixed_values z in
          record { few = leb-true _ _ t; there = t; p_is = cc; size_is = cc }
      go false t z = let no : ◌≡◌ {A = ℕ} 2 0 = ap (λ (f : Option BestPolarity). length (fixed_values f)) z in absurd (omega arith)

  inside : p < 2 ^ n
  inside = subst (λ (q : ℕ). q < 2 ^ n) (sym found.p_is) (best_has_least_rank n (byte_at (truth_vector n given))).inside

  pub form_inside : (p < 256) × (size ≤ 256)
  unfolding best_form
  form_inside =
      let most : 2 ^ n ≤ 256 = pow_mono found.few in
      (omega (arith, inside, most), omega (arith, found.size_is, form_most n (best_of n given) (coefficient n (best_of n given) (byte_at (truth_vector n given))), most))

  form_is : form_list n p (byte_at (take (2 ^ n) best.vector)) ≡ best_form n given
  unfolding best_form
  form_is = ap₂ (λ (q : ℕ) (v : List ℕ). form_list n q (byte_at v)) found.p_is (F.vector found.few)

  form_stands : (result : List Cube) (cf : Counts) → FormCounts best.vector p size cf → StandsFor n result given (best_form n given) (candidate_of cf (origin_is.Form p))
  form_stands result cf counts =
      let vector : Vector n (take (2 ^ n) best.vector) = subst (Vector n) (sym (F.vector found.few)) (truth_vector_is n given found.few) in
      record {
        rank_is = ap rank_of (counts n vector inside (found.size_is ∙ ap length (sym form_is))) ∙ ap rank form_is;
        list_is = ap (λ (v : List ℕ). form_list n p (byte_at v)) (sym (F.vector found.few)) ∙ form_is;
        named = (found.few, inside);
      }

-- ---- what the candidates stand for

module _ (n : ℕ) (result given : List Cube) where
  better_stands : (l m : List Cube) (a b : Candidate) → StandsFor n result given l a → StandsFor n result given m b → StandsFor n result given (better l m) (better_of a b)
  better_stands l m a b S T =
      subst (λ (t : Bool). StandsFor n result given (cond t m l) (better_of a b)) (ap₂ ltb T.rank_is S.rank_is ∙ sym (cheaper_rank m l)) (go (ltb b.rank a.rank))
    where
      go : (t : Bool) → StandsFor n result given (cond t m l) (cond t b a)
      go true = T
      go false = S

  module _ (best : BestForm) (F : FormIs n given best) (cs : Counts) (es : cs ≡ counts_of result) (script : Candidate) (is : script ≡ candidate_of cs origin_is.Script)
      (cg : Counts) (eg : cg ≡ counts_of given) (list : Candidate) (il : list ≡ candidate_of cg origin_is.Given) (two : Candidate) (it : two ≡ better_of script list) where
    two_stands : StandsFor n result given (better result given) two
    two_stands =
        subst (StandsFor n result given (better result given)) (sym (it ∙ ap₂ better_of is il))
        (better_stands result given _ _ (record { rank_is = ap rank_of es; list_is = refl; named = tt }) (record { rank_is = ap rank_of eg; list_is = refl; named = tt }))

    -- above 8 variables there is no form and no tree
    pub chosen_two : best.fixed ≡ None → StandsFor n result given (burned_list n result given) two
    unfolding burned_list fixed_of
    chosen_two e = go (leb n vector_variables) (sym F.fixed ∙ e)
      where
        go : (b : Bool) → cond b (best_as (best_of n given) (length (best_form n given))) None ≡ None
            → StandsFor n result given (cond b (better (better (better result given) (best_form n given)) (tree_form n given)) (better result given)) two
        go true z = let no : ◌≡◌ {A = ℕ} 2 0 = ap (λ (f : Option BestPolarity). length (fixed_values f)) z in absurd (omega arith)
        go false z = two_stands

    module _ (p size : ℕ) (e : best.fixed ≡ best_as p size) (cf : Counts) (counts : FormCounts best.vector p size cf)
        (form : Candidate) (ef : form ≡ candidate_of cf (origin_is.Form p)) (tree : Candidate) (et : tree ≡ candidate_of best.tree origin_is.Tree) where
      tree_stands : StandsFor n result given (tree_form n given) tree
      unfolding tree_form
      tree_stands =
          let few = (found n given best F p size e).few in
          subst (StandsFor n result given (tree_form n given)) (sym et) (record { rank_is = ap rank_of (F.tree few); list_is = refl; named = few })

      three_stands : (three : Candidate) → three ≡ better_of two form → StandsFor n result given (better (better result given) (best_form n given)) three
      three_stands three er =
          subst (StandsFor n result given (better (better result given) (best_form n given))) (sym (er ∙ ap (better_of two) ef))
          (better_stands (better result given) (best_form n given) two _ two_stands (form_stands n given best F p size e result cf counts))

      pub chosen_four : (three : Candidate) → three ≡ better_of two form → (r : Candidate) → r ≡ better_of three tree → StandsFor n result given (burned_list n result given) r
      unfolding burned_list
      chosen_four three e₃ r e₄ =
          let list : List Cube = better (better (better result given) (best_form n given)) (tree_form n given) in
          subst (λ (b : Bool). StandsFor n result given (cond b list (better result given)) r) (sym (found n given best F p size e).there)
          (subst (StandsFor n result given list) (sym e₄) (better_stands _ (tree_form n given) three tree (three_stands three e₃) tree_stands))

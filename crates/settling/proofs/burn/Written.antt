-- What is burned at the front of the output buffer, zeros after it: a whole list, a form, and the tree's list.
-- Assumes nothing.
use mathlib.Core.List.{List, [], ◌∷◌, ◌++◌, append-nil}
use mathlib.Core.Path.{◌≡◌, sym, ap, ◌∙◌, subst}
use Prim.Native.Nat.{ℕ, ◌*◌, ◌/◌, ◌%◌, ◌^◌, ◌≤◌, ◌<◌, ◌-◌}
use native.Mathlib.Nat.{mod-lt, zero-lt-suc}
use native.Mathlib.Omega.{arith}
use borrow.Author.Tests.{le-leb, lt-ltb}
use lib.Dec.{leb}
use lib.ListN.{length, get_or, take, length-take, replicate, drop_of_length-le, length-replicate}
use Rattle.std.specs.Prelude.{Result, Ok, Err}
use Rattle.bits.proofs.Below.{get_or_list_below}
use Rattle.records.specs.Answers.{accepted, unless, counted}
use Rattle.records.specs.Records.{list_of, image, filled, filled_by, flat, zeros, written}
use Rattle.records.specs.declared.Refusal.{Refusal}
use Rattle.records.proofs.Answers.{not_both, and_then_lem, unless_passes, after_accepted}
use Rattle.records.proofs.Filling.{drop_zeros}
use Rattle.records.proofs.Records.{length_list, capacity_fits, written_front}
use Rattle.records.proofs.Images.{length_flat}
use Rattle.cube.specs.Lists.{cubes, cubes_of, cube_capacity, record_width, most_records, vector_variables, truth_vector}
use Rattle.cube.specs.declared.Cube.{Cube}
use Rattle.cube.proofs.Lists.{cubes_bytes, lawful}
use Rattle.polarity.specs.Calls.{coefficients_outcome, coefficients_after, form_outcome, form_after}
use Rattle.polarity.specs.Forms.{form_list, parity_within, coefficient, form_from}
use Rattle.polarity.specs.Vectors.{byte_at, Vector, coefficient_vector}
use Rattle.polarity.proofs.Forms.{form_cong}
use Rattle.script.proofs.Filled.{filled_image_by}
use Rattle.settling.specs.Choice.{list_from, Named, ListFits, Burnable, BurnedIs}
use Rattle.settling.specs.declared.BestForm.{BestForm}
use Rattle.settling.specs.declared.Origin.{Origin}
use Rattle.settling.specs.declared.Origin.TheVariants as origin_is
use Rattle.settling.proofs.Forming.{truth_vector_is, power_is, bits_vector, vector_accepted}

pub list_burned : (list out : List ℕ) → length list % record_width ≡ 0 → length (cubes_of list) ≤ cube_capacity (length out) → ((i : ℕ) → get_or list i 0 < 256)
    → (out' : List ℕ) → out' ≡ filled_by out list → BurnedIs (cubes_of list) out out' (length list / record_width)
unfolding list_of
list_burned list out whole room small out' e =
    let fits : length list ≤ length out = omega (arith, whole, length_list cubes list, room, capacity_fits cubes most_records (length out)) in
    record {
      answer = sym (length_list cubes list);
      buffer = filled_image_by cubes lawful (length list / record_width) list out (cubes_bytes (length list / record_width) list (omega (arith, whole)) small) fits out' e;
    }

-- ---- the vector at the front of a buffer

module _ (n : ℕ) (v : List ℕ) (made : (ℕ → ℕ) → List Cube) (out : ℕ) (fits : ListFits n v made out) where
  power_long : (1 * 2 ^ n) % 2 ^ 64 ≡ 2 ^ n
  power_long = power_is n fits.vector.few

  pub front_end : (1 * 2 ^ n) % 2 ^ 64 ≤ length v
  front_end = omega (arith, power_long, fits.vector.long, length-take (2 ^ n) v)

  pub front_vector : Vector n (take ((1 * 2 ^ n) % 2 ^ 64) v)
  front_vector = subst (λ (k : ℕ). Vector n (take k v)) (sym power_long) fits.vector

  pub front_room : length (made (byte_at (take ((1 * 2 ^ n) % 2 ^ 64) v))) ≤ cube_capacity out
  front_room = subst (λ (k : ℕ). length (made (byte_at (take k v))) ≤ cube_capacity out) (sym power_long) fits.room

  pub front_burned : (out₀ out' : List ℕ) (r : ℕ) → BurnedIs (made (byte_at (take ((1 * 2 ^ n) % 2 ^ 64) v))) out₀ out' r
      → BurnedIs (made (byte_at (take (2 ^ n) v))) out₀ out' r
  front_burned out₀ out' r d = subst (λ (k : ℕ). BurnedIs (made (byte_at (take k v))) out₀ out' r) power_long d

-- ---- the list that an origin names

pub origin_burned : (n : ℕ) (given result : List Cube) (o q : Origin) → o ≡ q → (out out' : List ℕ) (r : ℕ) → BurnedIs (list_from n result given q) out out' r
    → BurnedIs (list_from n result given o) out out' r
origin_burned n given result o q e out out' r d = subst (λ (x : Origin). BurnedIs (list_from n result given x) out out' r) (sym e) d

module _ (n : ℕ) (list result : List ℕ) (best : BestForm) (o : Origin) (out : ℕ) (b : Burnable n list result best o out) where
  -- what is known of it, for the origin that it is
  room_of : (q : Origin) → o ≡ q → length (list_from n (cubes_of result) (cubes_of list) q) ≤ cube_capacity out
  room_of q e = subst (λ (q : Origin). length (list_from n (cubes_of result) (cubes_of list) q) ≤ cube_capacity out) e b.room

  pub script_room : o ≡ origin_is.Script → length (cubes_of result) ≤ cube_capacity out
  script_room e = room_of origin_is.Script e

  pub given_room : o ≡ origin_is.Given → length (cubes_of list) ≤ cube_capacity out
  given_room e = room_of origin_is.Given e

  pub form_named : (p : ℕ) → o ≡ origin_is.Form p → (n ≤ vector_variables) × (p < 2 ^ n)
  form_named p e = subst (Named n) e b.named

  pub tree_named : o ≡ origin_is.Tree → n ≤ vector_variables
  tree_named e = subst (Named n) e b.named

  -- where the origin names a list that is made of the function
  module _ (q : Origin) (e : o ≡ q) (few : n ≤ vector_variables) (made : (ℕ → ℕ) → List Cube)
      (names : list_from n (cubes_of result) (cubes_of list) q ≡ made (byte_at (truth_vector n (cubes_of list)))) where
    vector_is : take (2 ^ n) best.vector ≡ truth_vector n (cubes_of list)
    vector_is = b.best_is.vector few

    same : made (byte_at (take (2 ^ n) best.vector)) ≡ list_from n (cubes_of result) (cubes_of list) q
    same = ap (λ (v : List ℕ). made (byte_at v)) vector_is ∙ sym names

    pub list_fits : ListFits n best.vector made out
    list_fits = record {
      vector = subst (Vector n) (sym vector_is) (truth_vector_is n (cubes_of list) few);
      room = subst (λ (l : List Cube). length l ≤ cube_capacity out) (sym same) (room_of q e);
    }

    pub made_burned : (out₀ out' : List ℕ) (r : ℕ) → BurnedIs (made (byte_at (take (2 ^ n) best.vector))) out₀ out' r
        → BurnedIs (list_from n (cubes_of result) (cubes_of list) o) out₀ out' r
    made_burned out₀ out' r d =
        origin_burned n (cubes_of list) (cubes_of result) o q e out₀ out' r (subst (λ (l : List Cube). BurnedIs l out₀ out' r) same d)

-- ---- a list written to a cleared buffer

-- a list written to the front of zeros is its image
written_zeros : (l : List Cube) (n : ℕ) → record_width * length l ≤ n → written cubes 0 l (zeros n) ≡ image cubes n l
unfolding image filled
written_zeros l n h =
    written_front cubes lawful (zeros n) l (omega (arith, length-replicate {A = ℕ} n 0))
    ∙ ap (λ (t : List ℕ). flat cubes.enc l ++ t)
    (drop_zeros (record_width * length l) n ∙ ap (λ (k : ℕ). replicate (n - k) 0) (sym (length_flat cubes.enc record_width lawful.len l)))

pub list_written : (l : List Cube) (out : List ℕ) → length l ≤ cube_capacity (length out) → (out₁ : List ℕ) → out₁ ≡ zeros (length out)
    → (count : ℕ) → count ≡ length l → (out₂ : List ℕ) → out₂ ≡ written cubes 0 l out₁ → BurnedIs l out out₂ count
list_written l out room out₁ e₁ count ec out₂ e₂ = record {
  answer = ec;
  buffer =
      e₂ ∙ ap (written cubes 0 l) e₁ ∙ written_zeros l (length out) (omega (arith, capacity_fits cubes most_records (length out)));
}

module _ (n q : ℕ) (v : List ℕ) (vector : Vector n v) (polarity : q < 2 ^ n) where
  pub coefficients_written : (c c' : List ℕ) → length c ≡ 2 ^ n → c' ≡ coefficients_after n v q c → c' ≡ coefficient_vector n q v
  unfolding coefficients_after coefficients_outcome
  coefficients_written c c' e e' =
      let room : 2 ^ n ≤ length c = omega arith in
      let is : coefficients_outcome n v q (length c) ≡ accepted (2 ^ n ∷ []) = and_then_lem _ _ _ (vector_accepted n v vector) ∙ simp (lt-ltb _ _ polarity, le-leb _ _ room) in
      e' ∙ after_accepted _ _ c _ is
      ∙ ap (λ (t : List ℕ). coefficient_vector n q v ++ t) (drop_of_length-le c {i = 2 ^ n} (omega arith)) ∙ append-nil (coefficient_vector n q v)

  form_is : form_from n q (byte_at (coefficient_vector n q v)) ≡ form_list n q (byte_at v)
  form_is = form_cong n q _ _ (λ s h. get_or_list_below (2 ^ n) (coefficient n q (byte_at v)) s 0 h)

  coefficients_vector : Vector n (coefficient_vector n q v)
  unfolding parity_within
  coefficients_vector = bits_vector n (coefficient n q (byte_at v)) vector.few (λ s. mod-lt _ (zero-lt-suc 1))

  module _ (c : List ℕ) (ec : c ≡ coefficient_vector n q v) (out : List ℕ) (room : length (form_list n q (byte_at v)) ≤ cube_capacity (length out)) where
    form_accepted : form_outcome n c q (length out) ≡ accepted (length (form_list n q (byte_at v)) ∷ [])
    unfolding form_outcome
    form_accepted =
        ap (λ (t : List ℕ). form_outcome n t q (length out)) ec
        ∙ and_then_lem _ _ _ (vector_accepted n (coefficient_vector n q v) coefficients_vector)
        ∙ unless_passes _ 15 0 _ (lt-ltb _ _ polarity)
        ∙ ap (λ (l : List Cube). unless (leb (length l) (cube_capacity (length out))) 5 0 (accepted (length l ∷ []))) form_is
        ∙ unless_passes _ 5 0 _ (le-leb _ _ room)

    pub form_burned : (r : Result ℕ Refusal) (count : ℕ) → r ≡ Ok count → (out₁ : List ℕ) → out₁ ≡ zeros (length out) → counted r ≡ form_outcome n c q (length out₁)
        → (out₂ : List ℕ) → out₂ ≡ form_after n c q out₁ → BurnedIs (form_list n q (byte_at v)) out out₂ count
    unfolding form_after
    form_burned r count er out₁ e₁ ea out₂ e₂ =
        let same : length out₁ ≡ length out = ap length e₁ ∙ length-replicate {A = ℕ} (length out) 0 in
        let is : form_outcome n c q (length out₁) ≡ accepted (length (form_list n q (byte_at v)) ∷ []) = ap (form_outcome n c q) same ∙ form_accepted in
        let both : accepted (count ∷ []) ≡ accepted (length (form_list n q (byte_at v)) ∷ []) = ap counted (sym er) ∙ ea ∙ is in
        let same_count : count ≡ length (form_list n q (byte_at v)) = cc in
        list_written (form_list n q (byte_at v)) out room out₁ e₁ count same_count out₂
        (e₂ ∙ after_accepted _ _ out₁ _ is ∙ ap (λ (l : List Cube). written cubes 0 l out₁) (ap (λ (t : List ℕ). form_from n q (byte_at t)) ec ∙ form_is))

    pub form_not_refused : (r : Result ℕ Refusal) (x : Refusal) → r ≡ Err x → (out₁ : List ℕ) → out₁ ≡ zeros (length out) → counted r ≡ form_outcome n c q (length out₁) → ⊥
    form_not_refused r x er out₁ e₁ ea =
        let same : length out₁ ≡ length out = ap length e₁ ∙ length-replicate {A = ℕ} (length out) 0 in
        not_both (sym (ap (form_outcome n c q) same ∙ form_accepted) ∙ sym ea ∙ ap counted er)

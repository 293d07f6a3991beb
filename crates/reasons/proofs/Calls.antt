-- The call by its tests: what each return answers and leaves, and what an accepted call is.
-- Assumes nothing.
use mathlib.Core.Path.{◌≡◌, sym, ap, ◌∙◌, subst}
use mathlib.Core.List.{List, [], ◌∷◌}
use Prim.Native.Nat.{ℕ, ◌*◌, ◌%◌, ◌≤◌, ◌<◌}
use native.Mathlib.Omega.{arith}
use lib.Dec.{leb}
use lib.ListN.{length, get_or}
use borrow.Author.Tests.{le-leb, lt-leb, leb-true}
use Rattle.records.specs.declared.Refusal.{Refusal}
use Rattle.records.specs.Answers.{accepted, refused, refusal}
use Rattle.records.specs.Records.{written}
use Rattle.records.specs.Places.{place_width, places}
use Rattle.records.proofs.Answers.{accepted_values, and_then_lem, and_not, unless_passes, unless_fails, unless_accepted, both_accepted, call_refused, call_accepted}
use Rattle.records.proofs.Records.{length_list}
use Rattle.cube.specs.Lists.{cubes, cubes_of, list_value}
use Rattle.cube.specs.Calls.{check_at}
use Rattle.cube.proofs.Calls.{AcceptedAt, at_accepts, count_at}
use Rattle.reasons.specs.Calls.{true_places, reasons_outcome, reasons_after}
use Rattle.reasons.proofs.Showing.{places_trues, places_most}

-- ---- an accepted call

-- the list and the assignment pass, there is room for a place a record, and the answer is the number of true products and the value
pub record AcceptedReasons (n : ℕ) (b : List ℕ) (a room : ℕ) (v : List ℕ) : Type 0 where
  pub at : AcceptedAt n b a
  pub fits : place_width * length (cubes_of b) ≤ room
  pub value : v ≡ length (true_places n (cubes_of b) a) ∷ list_value n (cubes_of b) a ∷ []

module _ (n : ℕ) (b : List ℕ) (a room : ℕ) where
  pub reasons_accepts : (v : List ℕ) → reasons_outcome n b a room ≡ accepted v → AcceptedReasons n b a room v
  unfolding reasons_outcome
  reasons_accepts v e =
      let p = both_accepted (check_at n b a) _ v e in
      let q = unless_accepted (leb (place_width * length (cubes_of b)) room) 5 0 _ v p.second in
      record { at = at_accepts n b a p.values p.first; fits = leb-true _ _ q.0; value = sym (accepted_values q.1) }

  -- so the places that are written fit
  pub shown_fits : (number bit : ℕ) → reasons_outcome n b a room ≡ accepted (number ∷ bit ∷ []) → place_width * number ≤ room
  shown_fits number bit e =
      let A = reasons_accepts (number ∷ bit ∷ []) e in
      omega (arith, ap (λ (v : List ℕ). get_or v 0 0) A.value, places_most n (cubes_of b) a, A.fits)

-- ---- each return

-- the bit is the number's parity
parity_value : (n : ℕ) (b : List ℕ) (a number : ℕ) → number ≡ length (true_places n (cubes_of b) a)
    → accepted (length (true_places n (cubes_of b) a) ∷ list_value n (cubes_of b) a ∷ []) ≡ accepted (number ∷ number % 2 ∷ [])
unfolding list_value
parity_value n b a number e =
    ap (λ (t : ℕ). accepted (length (true_places n (cubes_of b) a) ∷ t % 2 ∷ [])) (sym (places_trues n (cubes_of b) a)) ∙ ap (λ (t : ℕ). accepted (t ∷ t % 2 ∷ [])) (sym e)

module _ (n : ℕ) (b : List ℕ) (a : ℕ) (out : List ℕ) where
  pub list_refused : (r : Refusal) → check_at n b a ≡ refused r → (refused r ≡ reasons_outcome n b a (length out)) × (out ≡ reasons_after n b a out)
  unfolding reasons_outcome reasons_after
  list_refused r e = call_refused _ _ out r (and_not _ _ r e)

  module _ (count : ℕ) (e : check_at n b a ≡ accepted (count ∷ [])) where
    all : count ≡ length (cubes_of b)
    all = count_at n b a count e ∙ sym (length_list cubes b)

    pub out_short : (r : Refusal) → r ≡ refusal 5 0 → length out < place_width * count → (refused r ≡ reasons_outcome n b a (length out)) × (out ≡ reasons_after n b a out)
    unfolding reasons_outcome reasons_after
    out_short r er h =
        call_refused _ _ out r
        (and_then_lem _ _ _ e ∙ unless_fails _ 5 0 _ (lt-leb _ _ (subst (λ (k : ℕ). length out < place_width * k) all h)) ∙ ap refused (sym er))

    pub all_shown : place_width * count ≤ length out → (number : ℕ) → number ≡ length (true_places n (cubes_of b) a)
        → (out' : List ℕ) → out' ≡ written places 0 (true_places n (cubes_of b) a) out
        → (accepted (number ∷ number % 2 ∷ []) ≡ reasons_outcome n b a (length out)) × (out' ≡ reasons_after n b a out)
    unfolding reasons_outcome reasons_after
    all_shown h number en out' eo =
        call_accepted _ _ out _ out'
        (and_then_lem _ _ _ e ∙ unless_passes _ 5 0 _ (le-leb _ _ (subst (λ (k : ℕ). place_width * k ≤ length out) all h)) ∙ parity_value n b a number en) eo

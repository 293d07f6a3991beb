-- Why a label goes to its slot, of a call of reasons that was accepted: document 02, One. "Prove that exactly the true products are shown and that the bit is their
-- number's parity." Which calls are accepted, and what the others are refused by, is demand 1.
-- Assumes nothing.
use mathlib.Core.Path.{◌≡◌, sym, ap, ◌∙◌, subst}
use mathlib.Core.List.{List, [], ◌∷◌}
use Prim.Native.Nat.{ℕ, ◌*◌, ◌%◌, ◌≤◌, zero-le}
use native.Mathlib.Nat.{le_trans, mul-le-mul_left}
use native.Mathlib.Omega.{arith}
use lib.ListN.{length, get_or, drop}
use Rattle.bits.proofs.Below.{those_bounds, those_all, those_ascending}
use Rattle.records.specs.Answers.{accepted}
use Rattle.records.specs.Records.{written}
use Rattle.records.specs.Places.{place_width, places}
use Rattle.records.proofs.Answers.{after_accepted}
use Rattle.records.proofs.Places.{places_back, places_rest}
use Rattle.cube.specs.declared.Cube.{Cube}
use Rattle.cube.specs.Lists.{cubes_of, trues, list_value}
use Rattle.cube.proofs.Calls.{value_accepts}
use Rattle.reasons.specs.Calls.{true_places, reasons_after}
use Rattle.reasons.proofs.Showing.{places_trues, places_most}
use Rattle.reasons.proofs.Calls.{AcceptedReasons, reasons_accepts}
use Rattle.promises.specs.Calls.{value, reasons, answers, leaves, Called}
use Rattle.promises.specs.Reasons.{shown_in, ExactlyTrue}
use Rattle.promises.proofs.Calling.{only}

pub places_exact : (n : ℕ) (l : List Cube) (a : ℕ) → ExactlyTrue n l a (true_places n l a)
unfolding true_places
places_exact n l a = record {
  true_there = λ p h. let t = those_bounds _ (length l) 0 p h in (omega (arith, t.1), t.2);
  each_shown = λ p h e. those_all _ (length l) 0 p zero-le (omega arith) e;
  ascending = those_ascending _ (length l) 0;
}

module _ (n : ℕ) (list : List ℕ) (a : ℕ) (out out' : List ℕ) (number bit : ℕ)
    (called : Called (reasons n list a out) (accepted (number ∷ bit ∷ [])) (out' ∷ [])) where
  taken : AcceptedReasons n list a (length out) (number ∷ bit ∷ [])
  unfolding answers
  taken = reasons_accepts n list a (length out) (number ∷ bit ∷ []) (sym called.answer)

  all : number ≡ length (true_places n (cubes_of list) a)
  all = ap (λ (v : List ℕ). get_or v 0 0) taken.value

  is : out' ≡ written places 0 (true_places n (cubes_of list) a) out
  unfolding answers leaves reasons_after
  is = only called.left ∙ after_accepted _ _ out _ (sym called.answer)

  fits : place_width * length (true_places n (cubes_of list) a) ≤ length out
  fits = le_trans (mul-le-mul_left place_width (places_most n (cubes_of list) a)) taken.fits

  shown_is : shown_in number out' ≡ true_places n (cubes_of list) a
  shown_is = (λ i. shown_in (all i) (is i)) ∙ places_back out (true_places n (cubes_of list) a) fits

  -- Exactly the true products are shown: each of them, none else, none twice, ascending; ..
  pub exactly_true_shown : ExactlyTrue n (cubes_of list) a (shown_in number out')
  exactly_true_shown = subst (ExactlyTrue n (cubes_of list) a) (sym shown_is) (places_exact n (cubes_of list) a)

  -- .. their number is that of the true products, ..
  pub number_of_trues : number ≡ trues n (cubes_of list) a
  number_of_trues = all ∙ places_trues n (cubes_of list) a

  -- .. the bit is the list's value there, and their number's parity; ..
  pub bit_is_value : bit ≡ list_value n (cubes_of list) a
  bit_is_value = ap (λ (v : List ℕ). get_or v 1 0) taken.value

  pub bit_is_parity : bit ≡ number % 2
  unfolding list_value
  bit_is_parity = bit_is_value ∙ ap (λ (t : ℕ). t % 2) (sym number_of_trues)

  -- .. every byte after them is as it was; ..
  pub reasons_no_more : drop (place_width * number) out' ≡ drop (place_width * number) out
  reasons_no_more = (λ i. drop (place_width * all i) (is i)) ∙ places_rest out (true_places n (cubes_of list) a) fits ∙ ap (λ (k : ℕ). drop (place_width * k) out) (sym all)

  -- .. and the value call answers the same bit and the same number.
  pub same_as_value : (b t : ℕ) → Called (value n list a) (accepted (b ∷ t ∷ [])) [] → (b ≡ bit) × (t ≡ number)
  unfolding answers
  same_as_value b t v =
      let A = value_accepts n list a (b ∷ t ∷ []) (sym v.answer) in
      (ap (λ (x : List ℕ). get_or x 0 0) A.value ∙ sym bit_is_value, ap (λ (x : List ℕ). get_or x 1 0) A.value ∙ sym number_of_trues)

-- What an answer of the check of a list and an assignment, and of the value call, says of its arguments.
-- Assumes nothing.
use mathlib.Core.Path.{◌≡◌, sym, ap, ◌∙◌}
use mathlib.Core.List.{List, [], ◌∷◌}
use Prim.Native.Nat.{ℕ, ◌/◌, ◌^◌, ◌<◌}
use lib.Dec.{ltb}
use lib.ListN.{length, get_or}
use borrow.Author.Tests.{ltb-true, lt-ltb}
use Rattle.records.specs.declared.Refusal.{Refusal}
use Rattle.records.specs.Answers.{accepted, refused}
use Rattle.records.proofs.Answers.{accepted_values, and_then_lem, and_not, unless_passes, unless_accepted, both_accepted}
use Rattle.records.proofs.Records.{length_list}
use Rattle.cube.specs.Lists.{cubes, most_variables, record_width, cubes_of, trues, list_value}
use Rattle.cube.specs.Calls.{check_list, check_at, value_outcome}
use Rattle.cube.proofs.Lists.{AcceptedList, check_accepts, accepts_check}

module _ (n : ℕ) (b : List ℕ) (a : ℕ) where
  -- a refused list is refused so, whatever the assignment is
  pub at_refused : (r : Refusal) → check_list most_variables n b ≡ refused r → refused r ≡ check_at n b a
  unfolding check_at
  at_refused r e = sym (and_not _ _ r e)

  -- an accepted list and assignment: the list passes, and the assignment is one of n variables
  pub record AcceptedAt : Type 0 where
    pub list : AcceptedList cubes most_variables n b
    pub below : a < 2 ^ n

  pub at_accepts : (v : List ℕ) → check_at n b a ≡ accepted v → AcceptedAt
  unfolding check_at
  at_accepts v e =
      let p = both_accepted (check_list most_variables n b) _ v e in
      let q = unless_accepted (ltb a (2 ^ n)) 6 0 _ v p.second in
      record { list = check_accepts cubes most_variables n b p.values p.first; below = ltb-true a (2 ^ n) q.0 }

  -- and such ones are accepted, with the count
  pub accepts_at : AcceptedAt → check_at n b a ≡ accepted (length b / record_width ∷ [])
  unfolding check_at
  accepts_at p =
      and_then_lem _ _ _ (accepts_check cubes most_variables n b p.list) ∙ unless_passes _ 6 0 _ (lt-ltb a (2 ^ n) p.below)
      ∙ ap (λ (k : ℕ). accepted (k ∷ [])) (length_list cubes b)

  pub count_at : (count : ℕ) → check_at n b a ≡ accepted (count ∷ []) → count ≡ length b / record_width
  count_at count e = ap (λ (v : List ℕ). get_or v 0 0) (accepted_values (sym e ∙ accepts_at (at_accepts (count ∷ []) e)))

  -- an accepted value call: the answer is the value there, and the number of true products
  pub record AcceptedValue (v : List ℕ) : Type 0 where
    pub at : AcceptedAt
    pub value : v ≡ list_value n (cubes_of b) a ∷ trues n (cubes_of b) a ∷ []

  pub value_accepts : (v : List ℕ) → value_outcome n b a ≡ accepted v → AcceptedValue v
  unfolding value_outcome
  value_accepts v e =
      let p = both_accepted (check_at n b a) _ v e in
      record { at = at_accepts p.values p.first; value = sym (accepted_values p.second) }

  -- and such a call is accepted
  pub accepts_value : AcceptedAt → value_outcome n b a ≡ accepted (list_value n (cubes_of b) a ∷ trues n (cubes_of b) a ∷ [])
  unfolding value_outcome
  accepts_value p = and_then_lem _ _ _ (accepts_at p)

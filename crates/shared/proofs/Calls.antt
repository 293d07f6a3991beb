-- What an answer of the check of a list and an assignment, and of the value call, says of its arguments.
-- Assumes nothing.
use mathlib.Core.Path.{◌≡◌, sym, ap, ◌∙◌}
use mathlib.Core.List.{List, [], ◌∷◌}
use Prim.Native.Nat.{ℕ, ◌/◌, ◌^◌, ◌≤◌, ◌<◌}
use borrow.Author.Tests.{ltb-true, lt-ltb, le-ltb}
use lib.Dec.{ltb}
use lib.ListN.{length}
use Rattle.records.specs.declared.Refusal.{Refusal}
use Rattle.records.specs.Answers.{accepted, refused, refusal}
use Rattle.records.proofs.Answers.{accepted_values, and_then_lem, and_not, unless_passes, unless_fails, unless_accepted, both_accepted}
use Rattle.records.proofs.Records.{length_list}
use Rattle.shared.specs.SharedRecord.{shares, shared_width, shares_of}
use Rattle.shared.specs.Outputs.{value_word}
use Rattle.shared.specs.Calls.{check_shared, check_shared_at, word_outcome}
use Rattle.shared.proofs.Lists.{AcceptedShared, shared_accepts, accepts_shared, shared_count_is}

module _ (n : ℕ) (b : List ℕ) (a : ℕ) where
  -- an accepted list and assignment: the list passes, and the assignment is one of n variables
  pub record AcceptedSharedAt : Type 0 where
    pub list : AcceptedShared n b
    pub below : a < 2 ^ n

  pub shared_at_accepts : (v : List ℕ) → check_shared_at n b a ≡ accepted v → AcceptedSharedAt
  unfolding check_shared_at
  shared_at_accepts v e =
      let p = both_accepted (check_shared n b) _ v e in
      let q = unless_accepted (ltb a (2 ^ n)) 6 0 _ v p.second in
      record { list = shared_accepts n b p.values p.first; below = ltb-true a (2 ^ n) q.0 }

  -- and such ones are accepted, with the count
  pub accepts_shared_at : AcceptedSharedAt → check_shared_at n b a ≡ accepted (length b / shared_width ∷ [])
  unfolding check_shared_at
  accepts_shared_at p =
      and_then_lem _ _ _ (accepts_shared n b p.list) ∙ unless_passes _ 6 0 _ (lt-ltb a (2 ^ n) p.below)
      ∙ ap (λ (k : ℕ). accepted (k ∷ [])) (length_list shares b)

  -- ---- the check of a list and an assignment by cases

  -- a refused list is refused so, whatever the assignment is
  pub at_refused : (r : Refusal) → check_shared n b ≡ refused r → refused r ≡ check_shared_at n b a
  unfolding check_shared_at
  at_refused r e = sym (and_not _ _ r e)

  module _ (count : ℕ) (e : check_shared n b ≡ accepted (count ∷ [])) where
    pub at_far : (r : Refusal) → r ≡ refusal 6 0 → 2 ^ n ≤ a → refused r ≡ check_shared_at n b a
    unfolding check_shared_at
    at_far r er h = ap refused er ∙ sym (and_then_lem _ _ _ e ∙ unless_fails _ 6 0 _ (le-ltb _ _ h))

    pub at_count : a < 2 ^ n → accepted (count ∷ []) ≡ check_shared_at n b a
    at_count h =
        ap (λ (k : ℕ). accepted (k ∷ [])) (shared_count_is n b count e)
        ∙ sym (accepts_shared_at (record { list = shared_accepts n b _ e; below = h }))

  -- ---- the value call

  pub word_refused : (r : Refusal) → check_shared_at n b a ≡ refused r → refused r ≡ word_outcome n b a
  unfolding word_outcome
  word_refused r e = sym (and_not _ _ r e)

  pub word_answer : (v : List ℕ) → check_shared_at n b a ≡ accepted v → (w : ℕ) → w ≡ value_word n (shares_of b) a → accepted (w ∷ []) ≡ word_outcome n b a
  unfolding word_outcome
  word_answer v e w ew = ap (λ (x : ℕ). accepted (x ∷ [])) ew ∙ sym (and_then_lem _ _ v e)

  -- an accepted one: the answer is the word there
  pub record AcceptedWord (v : List ℕ) : Type 0 where
    pub at : AcceptedSharedAt
    pub word : v ≡ value_word n (shares_of b) a ∷ []

  pub word_accepts : (v : List ℕ) → word_outcome n b a ≡ accepted v → AcceptedWord v
  unfolding word_outcome
  word_accepts v e =
      let p = both_accepted (check_shared_at n b a) _ v e in
      record { at = shared_at_accepts p.values p.first; word = sym (accepted_values p.second) }

  -- and such a call is accepted
  pub accepts_word : AcceptedSharedAt → word_outcome n b a ≡ accepted (value_word n (shares_of b) a ∷ [])
  unfolding word_outcome
  accepts_word p = and_then_lem _ _ _ (accepts_shared_at p)

-- The checks of a vector, a polarity and a buffer's room, by the first test that fails; what an accepted call has, and what it writes.
-- Assumes nothing.
use mathlib.Core.Path.{◌≡◌, sym, ap, ap₂, ◌∙◌, subst}
use mathlib.Core.List.{List, [], ◌∷◌, ◌++◌}
use Prim.Native.Nat.{ℕ, ◌^◌, ◌<◌, ◌≤◌}
use lib.Dec.{leb, ltb}
use lib.ListN.{length, get_or, drop}
use borrow.Author.Tests.{le-leb, lt-leb, lt-ltb, le-ltb, leb-true, ltb-true}
use Rattle.records.specs.declared.Refusal.{Refusal}
use Rattle.records.specs.Answers.{accepted, refused, refusal}
use Rattle.records.proofs.Answers.{unless_accepted, both_accepted, accepted_values, and_then_lem, and_not}
use Rattle.polarity.specs.Vectors.{Vector, check_vector}
use Rattle.polarity.specs.Calls.{coefficients_outcome}
use Rattle.polarity.proofs.Vectors.{check_accepts, check_long}

-- ---- 15 and 5, after the check of the vector

module _ (n : ℕ) (l : List ℕ) (p room : ℕ) where
  pub room_refused : (r : Refusal) → check_vector n l ≡ refused r → refused r ≡ coefficients_outcome n l p room
  unfolding coefficients_outcome
  room_refused r e = sym (and_not _ _ r e)

  module _ (m : ℕ) (e : check_vector n l ≡ accepted (m ∷ [])) where
    long_is : m ≡ 2 ^ n
    long_is = check_long n l m e

    pub room_15 : (r : Refusal) → r ≡ refusal 15 0 → m ≤ p → refused r ≡ coefficients_outcome n l p room
    unfolding coefficients_outcome
    room_15 r er h = ap refused er ∙ sym (and_then_lem _ _ _ e ∙ simp (le-ltb p (2 ^ n) (subst (λ (x : ℕ). x ≤ p) long_is h)))

    module _ (low : p < m) where
      below : p < 2 ^ n
      below = subst (λ (x : ℕ). p < x) long_is low

      pub room_5 : (r : Refusal) → r ≡ refusal 5 0 → room < m → refused r ≡ coefficients_outcome n l p room
      unfolding coefficients_outcome
      room_5 r er h =
          ap refused er ∙ sym (and_then_lem _ _ _ e ∙ simp (lt-ltb p (2 ^ n) below, lt-leb (2 ^ n) room (subst (λ (x : ℕ). room < x) long_is h)))

      pub room_0 : m ≤ room → accepted (m ∷ []) ≡ coefficients_outcome n l p room
      unfolding coefficients_outcome
      room_0 h =
          ap (λ (x : ℕ). accepted (x ∷ [])) long_is
          ∙ sym (and_then_lem _ _ _ e ∙ simp (lt-ltb p (2 ^ n) below, le-leb (2 ^ n) room (subst (λ (x : ℕ). x ≤ room) long_is h)))

-- what an accepted call has
pub record AcceptedTransform (n : ℕ) (l : List ℕ) (p room m : ℕ) : Type 0 where
  pub vector : Vector n l
  pub long : m ≡ 2 ^ n
  pub polarity : p < 2 ^ n
  pub fits : m ≤ room

pub room_accepts : (n : ℕ) (l : List ℕ) (p room m : ℕ) → coefficients_outcome n l p room ≡ accepted (m ∷ []) → AcceptedTransform n l p room m
unfolding coefficients_outcome
room_accepts n l p room m e =
    let b = both_accepted (check_vector n l) _ (m ∷ []) e in
    let q = unless_accepted (ltb p (2 ^ n)) 15 0 _ (m ∷ []) b.second in
    let r = unless_accepted (leb (2 ^ n) room) 5 0 _ (m ∷ []) q.1 in
    let long : m ≡ 2 ^ n = ap (λ (v : List ℕ). get_or v 0 0) (sym (accepted_values r.1)) in
    record {
      vector = check_accepts n l b.values b.first;
      long = long;
      polarity = ltb-true p (2 ^ n) q.0;
      fits = subst (λ (x : ℕ). x ≤ room) (sym long) (leb-true (2 ^ n) room r.0);
    }

-- the bytes that were put to the front of a buffer that has room
pub transform_put : (n : ℕ) (l : List ℕ) (p : ℕ) (out : List ℕ) (m : ℕ) → AcceptedTransform n l p (length out) m → (new front : List ℕ) → front ≡ new → front ++ drop m out ≡ new ++ drop (2 ^ n) out
transform_put n l p out m R new front e = ap₂ (λ (x : List ℕ) (j : ℕ). x ++ drop j out) e R.long

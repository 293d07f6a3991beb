-- The check of a list and an assignment, the value call and the truth vector by cases: what each of their returns answers and leaves.
-- Assumes nothing.
use mathlib.Core.Path.{◌≡◌, sym, ap, ◌∙◌}
use mathlib.Core.List.{List, [], ◌∷◌, ◌++◌}
use Prim.Native.Nat.{ℕ, ◌%◌, ◌^◌, ◌≤◌, ◌<◌}
use native.Mathlib.Omega.{arith}
use lib.ListN.{length, drop}
use borrow.Author.Tests.{le-ltb, le-leb, lt-leb}
use Rattle.records.specs.declared.Refusal.{Refusal}
use Rattle.records.specs.Answers.{Outcome, accepted, refused, refusal}
use Rattle.records.proofs.Answers.{and_then_lem, and_not, unless_passes, unless_fails, call_refused, call_accepted}
use Rattle.cube.specs.Lists.{cubes, cubes_of, trues, list_value, truth_vector, most_variables, vector_variables}
use Rattle.cube.specs.Calls.{check_list, check_at, value_outcome, vector_outcome, vector_after}
use Rattle.cube.proofs.Lists.{check_accepts, count_is}
use Rattle.cube.proofs.Calls.{accepts_at}

-- ---- a list and an assignment

module _ (n : ℕ) (b : List ℕ) (a : ℕ) where
  module _ (count : ℕ) (e : check_list most_variables n b ≡ accepted (count ∷ [])) where
    pub at_far : (r : Refusal) → r ≡ refusal 6 0 → 2 ^ n ≤ a → refused r ≡ check_at n b a
    unfolding check_at
    at_far r er h = ap refused er ∙ sym (and_then_lem _ _ _ e ∙ simp (le-ltb _ _ h))

    pub at_count : a < 2 ^ n → accepted (count ∷ []) ≡ check_at n b a
    at_count h =
        ap (λ (k : ℕ). accepted (k ∷ [])) (count_is cubes most_variables n b count e)
        ∙ sym (accepts_at n b a (record { list = check_accepts cubes most_variables n b _ e; below = h }))

  -- ---- value

  pub value_refused : (r : Refusal) → check_at n b a ≡ refused r → refused r ≡ value_outcome n b a
  unfolding value_outcome
  value_refused r e = sym (and_not _ _ r e)

  pub value_bit_lem : (v : List ℕ) → check_at n b a ≡ accepted v → (t : ℕ) → t ≡ trues n (cubes_of b) a → accepted (t % 2 ∷ t ∷ []) ≡ value_outcome n b a
  unfolding value_outcome list_value
  value_bit_lem v e t et = ap (λ (x : ℕ). accepted (x % 2 ∷ x ∷ [])) et ∙ sym (and_then_lem _ _ v e)

-- ---- truth vector

-- what a call answers, and the buffer after it
abbrev pub Vectored : ℕ → List ℕ → List ℕ → Outcome → List ℕ → Type 0
Vectored n b out o out' = (o ≡ vector_outcome n b (length out)) × (out' ≡ vector_after n b out)

module _ (n : ℕ) (b out : List ℕ) where
  pub vector_refused : (r : Refusal) → check_list vector_variables n b ≡ refused r → Vectored n b out (refused r) out
  unfolding vector_outcome vector_after
  vector_refused r e = call_refused _ _ out r (and_not _ _ r e)

  module _ (v : List ℕ) (e : check_list vector_variables n b ≡ accepted v) (assignments : ℕ) (es : assignments ≡ 2 ^ n) where
    pub vector_short : (r : Refusal) → r ≡ refusal 5 0 → length out < assignments → Vectored n b out (refused r) out
    unfolding vector_outcome vector_after
    vector_short r er h =
        let short : length out < 2 ^ n = omega arith in
        call_refused _ _ out r (and_then_lem _ _ v e ∙ unless_fails _ 5 0 _ (lt-leb _ _ short) ∙ ap refused (sym er))

    pub vector_done : assignments ≤ length out → (out' : List ℕ) → out' ≡ truth_vector n (cubes_of b) ++ drop (2 ^ n) out
        → Vectored n b out (accepted (assignments ∷ [])) out'
    unfolding vector_outcome vector_after
    vector_done h out' eo =
        let room : 2 ^ n ≤ length out = omega arith in
        call_accepted _ _ out _ out' (and_then_lem _ _ v e ∙ unless_passes _ 5 0 _ (le-leb _ _ room) ∙ ap (λ (x : ℕ). accepted (x ∷ [])) (sym es)) eo

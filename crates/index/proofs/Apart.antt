-- The first place at which two lists differ.
-- Assumes nothing.
use mathlib.Core.Path.{◌≡◌, sym, ap, ◌∙◌, subst}
use mathlib.Core.Logic.{◌≢◌}
use mathlib.Core.Bool.{Bool, true, false, not}
use mathlib.Core.List.{List}
use Prim.Native.Nat.{ℕ, ◌+◌, ◌≤◌, ◌<◌, zero-le}
use native.Mathlib.Nat.{zero-add, le_refl}
use native.Mathlib.Omega.{arith}
use lib.Dec.{eqb}
use lib.ListN.{length, get_or}
use lib.Seq.{ext_get_or}
use borrow.Author.Tests.{eq-eqb, ne_eqb, eqb-true, not-false}
use Rattle.bits.specs.Below.{first_from, NoneTo, FirstIn}
use Rattle.bits.proofs.First.{none_start, none_next, first_end, first_here, first_same, first_from_lem}
use Rattle.records.specs.Answers.{Outcome, accepted, refused, refusal}
use Rattle.records.proofs.Answers.{unless_passes, unless_fails, unless_accepted}
use Rattle.index.specs.Calls.{first_apart, unless_right}

module _ (m : ℕ) (l right : List ℕ) where
  -- the test that finds it
  abbrev pub apart_at : ℕ → Bool
  apart_at i = not (eqb (get_or l i 0) (get_or right i 0))

  pub apart_same : (i : ℕ) → get_or l i 0 ≡ get_or right i 0 → apart_at i ≡ false
  apart_same i e = ap not (eq-eqb _ _ e)

  pub apart_other : (i : ℕ) → get_or l i 0 ≢ get_or right i 0 → apart_at i ≡ true
  apart_other i e = ap not (ne_eqb _ _ e)

  pub is_first : FirstIn apart_at 0 m (first_apart m l right)
  unfolding first_apart
  is_first = subst (λ (end : ℕ). FirstIn apart_at 0 end (first_from apart_at m 0)) (zero-add m) (first_from_lem apart_at m 0)

  pub first_found : (x : ℕ) → FirstIn apart_at 0 m x → x ≡ first_apart m l right
  first_found x p = first_same apart_at 0 m x (first_apart m l right) p is_first

  -- ---- a loop that looks for it: the lists agree at the places below x

  pub record Agreeing (x : ℕ) : Type 0 where
    pub so_far : NoneTo apart_at 0 m x

  pub agreeing_none : Agreeing 0
  agreeing_none = record { so_far = none_start apart_at 0 m zero-le }

  module _ (x : ℕ) (r : Agreeing x) where
    pub agreeing_more : x < m → get_or l x 0 ≡ get_or right x 0 → Agreeing (x + 1)
    agreeing_more h e = record { so_far = none_next apart_at 0 m x r.so_far h (apart_same x e) }

    pub agreeing_apart : get_or l x 0 ≢ get_or right x 0 → x ≡ first_apart m l right
    agreeing_apart e = first_found x (first_here apart_at 0 m x r.so_far (apart_other x e))

    pub agreeing_end : m ≤ x → m ≡ first_apart m l right
    agreeing_end h = first_found m (first_end apart_at 0 m x r.so_far h)

  -- where there is none, the lists are the same
  pub none_apart : length l ≡ m → length right ≡ m → first_apart m l right ≡ m → l ≡ right
  none_apart el er e = ext_get_or 0 l right (el ∙ sym er) (λ i h.
      eqb-true _ _ (not-false _ (is_first.before.none i zero-le (subst (λ (x : ℕ). i < x) (el ∙ sym e) h))))

  -- ---- the refusal by it

  module _ (number : ℕ) (o : Outcome) where
    pub right_fails : (x : ℕ) → x ≡ first_apart m l right → (x ≡ m → ⊥) → refused (refusal number x) ≡ unless_right m l right number o
    right_fails x is h =
        ap (λ (p : ℕ). refused (refusal number p)) is ∙ sym (unless_fails _ number (first_apart m l right) o (ne_eqb _ _ (λ e. h (is ∙ e))))

    pub right_passes : first_apart m l right ≡ m → unless_right m l right number o ≡ o
    right_passes e = unless_passes _ number (first_apart m l right) o (eq-eqb _ _ e)

    pub right_accepted : (v : List ℕ) → length l ≡ m → length right ≡ m → unless_right m l right number o ≡ accepted v → (l ≡ right) × (o ≡ accepted v)
    right_accepted v el er e =
        let p = unless_accepted (eqb (first_apart m l right) m) number (first_apart m l right) o v e in
        (none_apart el er (eqb-true _ _ p.0), p.1)

-- a list does not differ from itself
pub same_apart : (m : ℕ) (l right : List ℕ) → l ≡ right → first_apart m l right ≡ m
same_apart m l right e = sym (first_found m l right m (record {
  before = record { low = zero-le; most = le_refl m; none = λ i a b. apart_same m l right i (ap (λ (t : List ℕ). get_or t i 0) e) };
  passes = λ h. absurd (omega arith);
}))

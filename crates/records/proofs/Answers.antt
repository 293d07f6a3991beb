-- What an accepted chain of tests says, and what a refused one leaves.
-- Assumes nothing.
use mathlib.Core.Path.{◌≡◌, refl, sym, ap, ◌∙◌}
use mathlib.Core.Bool.{Bool, true, false}
use mathlib.Core.List.{List, [], ◌∷◌}
use Prim.Native.Nat.{ℕ}
use native.Mathlib.Omega.{arith}
use lib.Dec.{eqb}
use lib.ListN.{length, get_or}
use borrow.Author.Tests.{eqb-true, eq-eqb, ne_eqb}
use Rattle.bits.specs.Sums.{All, first_bad}
use Rattle.bits.proofs.Sums.{first_none, none_first}
use Rattle.records.specs.declared.Refusal.{Refusal}
use Rattle.std.specs.Prelude.{Result, Ok, Err, IsErr, IsErrAnd}
use Rattle.records.specs.Answers.{Outcome, accepted, refused, refusal, unless, unless_at, and_then, after_call, outcome_of, counted}

-- what is accepted is not refused
pub not_both : {v : List ℕ} {r : Refusal} → accepted v ≡ refused r → ⊥
not_both e = let z : ◌≡◌ {A = ℕ} 0 1 = cc in omega arith

pub accepted_values : {v w : List ℕ} → accepted v ≡ accepted w → v ≡ w
accepted_values e = cc

pub refused_same : {r s : Refusal} → refused r ≡ refused s → r ≡ s
refused_same e = cc

-- a chain at a test that passes, and at one that fails
pub unless_passes : (t : Bool) (number place : ℕ) (o : Outcome) → t ≡ true → unless t number place o ≡ o
unless_passes t number place o e = ap (λ (b : Bool). unless b number place o) e

pub unless_fails : (t : Bool) (number place : ℕ) (o : Outcome) → t ≡ false → unless t number place o ≡ refused (refusal number place)
unless_fails t number place o e = ap (λ (b : Bool). unless b number place o) e

-- a test of an accepted chain passed, and what came after it was accepted
pub unless_accepted : (t : Bool) (number place : ℕ) (o : Outcome) (v : List ℕ) → unless t number place o ≡ accepted v → (t ≡ true) × (o ≡ accepted v)
unless_accepted true number place o v e = (refl, e)
unless_accepted false number place o v e = absurd (not_both (sym e))

-- every element of an accepted chain passed
pub unless_at_accepted : {A : Type 0} (test : A → Bool) (number : ℕ) (l : List A) (o : Outcome) (v : List ℕ)
    → unless_at test number l o ≡ accepted v → All (λ x. test x ≡ true) l × (o ≡ accepted v)
unless_at_accepted test number l o v e =
    let p = unless_accepted (eqb (first_bad test l) (length l)) number (first_bad test l) o v e in
    (first_none test l (eqb-true _ _ p.0), p.1)

-- where every element passes, so does the test
pub unless_at_passes : {A : Type 0} (test : A → Bool) (number : ℕ) (l : List A) (o : Outcome) → All (λ x. test x ≡ true) l → unless_at test number l o ≡ o
unless_at_passes test number l o a = unless_passes _ number (first_bad test l) o (eq-eqb _ _ (none_first test l a))

-- the place that a search found: an element that fails, or the length
module _ {A : Type 0} (test : A → Bool) (number : ℕ) (l : List A) (o : Outcome) (bad : ℕ) (is : bad ≡ first_bad test l) where
  pub unless_at_refused : (bad ≡ length l → ⊥) → refused (refusal number bad) ≡ unless_at test number l o
  unless_at_refused h =
      ap (λ (p : ℕ). refused (refusal number p)) is
      ∙ sym (unless_fails _ number (first_bad test l) o (ne_eqb _ _ (λ q. h (is ∙ q))))

  pub unless_at_passed : bad ≡ length l → o ≡ unless_at test number l o
  unless_at_passed h = sym (unless_passes _ number (first_bad test l) o (eq-eqb _ _ (sym is ∙ h)))

-- an accepted call that tested something else first
pub record Both (o rest : Outcome) (v : List ℕ) : Type 0 where
  pub values : List ℕ
  pub first : o ≡ accepted values
  pub second : rest ≡ accepted v

pub both_accepted : (o rest : Outcome) (v : List ℕ) → and_then o rest ≡ accepted v → Both o rest v
both_accepted (accepted w) rest v e = record { values = w; first = refl; second = e }
both_accepted (refused r) rest v e = absurd (not_both (sym e))

-- ---- a call by what it tested first

pub and_then_lem : (o rest : Outcome) (v : List ℕ) → o ≡ accepted v → and_then o rest ≡ rest
and_then_lem o rest v e = ap (λ (x : Outcome). and_then x rest) e

pub and_not : (o rest : Outcome) (r : Refusal) → o ≡ refused r → and_then o rest ≡ refused r
and_not o rest r e = ap (λ (x : Outcome). and_then x rest) e

pub after_refused : (o : Outcome) (new old : List ℕ) (r : Refusal) → o ≡ refused r → after_call o new old ≡ old
after_refused o new old r e = ap (λ (x : Outcome). after_call x new old) e

pub after_accepted : (o : Outcome) (new old v : List ℕ) → o ≡ accepted v → after_call o new old ≡ new
after_accepted o new old v e = ap (λ (x : Outcome). after_call x new old) e

-- ---- a call that leaves `new` where it is accepted, and the buffer as it was where it is refused

pub call_refused : (o : Outcome) (new out : List ℕ) (r : Refusal) → o ≡ refused r → (refused r ≡ o) × (out ≡ after_call o new out)
call_refused o new out r e = (sym e, sym (after_refused o new out r e))

pub call_accepted : (o : Outcome) (new out v out' : List ℕ) → o ≡ accepted v → out' ≡ new → (accepted v ≡ o) × (out' ≡ after_call o new out)
call_accepted o new out v out' e f = (sym e, f ∙ sym (after_accepted o new out v e))

-- ---- a refusal that `?` hands on

pub handed_on : {A : Type 0} (values : A → List ℕ) (r : Result A Refusal) (e : Refusal) (o : Outcome)
    → IsErr r × IsErrAnd r (λ (f : Refusal). f ≡ e) → refused e ≡ o → outcome_of values r ≡ o
handed_on values (Ok a) e o p q = absurd p.1
handed_on values (Err f) e o p q = ap refused p.1 ∙ q

-- ---- the answer read back

abbrev pub answer_back : {A : Type 0} → (List ℕ → A) → Outcome → Result A Refusal
answer_back value (accepted v) = Ok (value v)
answer_back value (refused r) = Err r

-- what is told can be read back where its values can
pub answer_known : {A : Type 0} (values : A → List ℕ) (value : List ℕ → A) → ((a : A) → value (values a) ≡ a)
    → (r : Result A Refusal) → answer_back value (outcome_of values r) ≡ r
answer_known values value known (Ok a) = ap Ok (known a)
answer_known values value known (Err r) = refl

abbrev pub counted_back : Outcome → Result ℕ Refusal
counted_back = answer_back (λ (v : List ℕ). get_or v 0 0)

pub counted_known : (a : Result ℕ Refusal) → counted_back (counted a) ≡ a
counted_known = answer_known (λ n. n ∷ []) (λ (v : List ℕ). get_or v 0 0) (λ n. refl)

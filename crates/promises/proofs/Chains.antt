-- A chain of tests and the faults that it goes by: it refuses by the first that is wrong, and goes on where none is. For every chain, of every call.
-- Assumes nothing.
use mathlib.Core.Path.{◌≡◌, refl, sym, ap, ◌∙◌}
use mathlib.Core.Logic.{inl, inr}
use mathlib.Core.Bool.{Bool, true, false, true≢false}
use mathlib.Core.List.{List, [], ◌∷◌, ◌++◌}
use Prim.Native.Nat.{ℕ, ◌≤◌, ◌<◌}
use native.Mathlib.Nat.{le_antisymm}
use native.Mathlib.Omega.{arith}
use borrow.Author.Tests.{eqb-false, eqb-true, ltb-true, ltb-false}
use lib.Dec.{eqb, ltb}
use lib.ListN.{length, get_or}
use Rattle.bits.specs.Sums.{first_bad}
use Rattle.bits.proofs.Sums.{all_get, first_le, first_fails, first_lowest, first_none}
use Rattle.records.specs.Answers.{Outcome, accepted, refused, refusal, unless, unless_at, and_then}
use Rattle.records.proofs.Answers.{not_both, and_then_lem, and_not}
use Rattle.promises.specs.Refusals.{Lowest, Fault, at, lowest, fault_number, Wrong, NoneWrong, FirstWrong, before_steps}

-- ---- faults

-- a fault is there at one place
lowest_le : {A : Type 0} {test : A → Bool} {d : A} {l : List A} {p q : ℕ} → Lowest test d l p → Lowest test d l q → p ≤ q
lowest_le {test = test} {d = d} {l = l} {p = p} {q = q} P Q = go (ltb q p) refl
  where
    go : (b : Bool) → ltb q p ≡ b → p ≤ q
    go true e = absurd (true≢false (sym (P.passed q (ltb-true q p e)) ∙ Q.fails))
    go false e = ltb-false q p e

wrong_once : (x : Fault) (p q : ℕ) → Wrong x p → Wrong x q → p ≡ q
wrong_once (at number place when) p q P Q = P.0 ∙ sym Q.0
wrong_once (lowest number test d l) p q P Q = le_antisymm (lowest_le P Q) (lowest_le Q P)

-- only one is the first
pub first_only : (xs : List Fault) (m n p q : ℕ) → FirstWrong xs m p → FirstWrong xs n q → (m ≡ n) × (p ≡ q)
first_only [] m n p q P Q = absurd P
first_only (x ∷ xs) m n p q (inl P) (inl Q) = (P.0 ∙ sym Q.0, wrong_once x p q P.1 Q.1)
first_only (x ∷ xs) m n p q (inl P) (inr Q) = absurd (Q.0 p P.1)
first_only (x ∷ xs) m n p q (inr P) (inl Q) = absurd (P.0 q Q.1)
first_only (x ∷ xs) m n p q (inr P) (inr Q) = first_only xs m n p q P.1 Q.1

pub not_none : (xs : List Fault) (number place : ℕ) → FirstWrong xs number place → NoneWrong xs → ⊥
not_none [] number place f none = f
not_none (x ∷ xs) number place (inl f) none = none.0 place f.1
not_none (x ∷ xs) number place (inr f) none = not_none xs number place f.1 none.1

-- its number is that of one of them, and those are numbers of what is found before the first step
abbrev pub Numbered : List Fault → Type 0
Numbered [] = Unit {0}
Numbered (x ∷ xs) = (before_steps (fault_number x) ≡ true) × Numbered xs

pub first_number : (xs : List Fault) → Numbered xs → (number place : ℕ) → FirstWrong xs number place → before_steps number ≡ true
first_number [] h number place f = absurd f
first_number (x ∷ xs) h number place (inl f) = ap before_steps f.0 ∙ h.0
first_number (x ∷ xs) h number place (inr f) = first_number xs h.1 number place f.1

pub numbered_both : (xs ys : List Fault) → Numbered xs → Numbered ys → Numbered (xs ++ ys)
numbered_both [] ys a b = b
numbered_both (x ∷ xs) ys a b = (a.0, numbered_both xs ys a.1 b)

first_left : (xs ys : List Fault) (number place : ℕ) → FirstWrong xs number place → FirstWrong (xs ++ ys) number place
first_left [] ys number place f = absurd f
first_left (x ∷ xs) ys number place (inl f) = inl f
first_left (x ∷ xs) ys number place (inr f) = inr (f.0, first_left xs ys number place f.1)

first_right : (xs ys : List Fault) (number place : ℕ) → NoneWrong xs → FirstWrong ys number place → FirstWrong (xs ++ ys) number place
first_right [] ys number place none f = f
first_right (x ∷ xs) ys number place none f = inr (none.0, first_right xs ys number place none.1 f)

pub none_both : (xs ys : List Fault) → NoneWrong xs → NoneWrong ys → NoneWrong (xs ++ ys)
none_both [] ys a b = b
none_both (x ∷ xs) ys a b = (a.0, none_both xs ys a.1 b)

pub none_left : (xs ys : List Fault) → NoneWrong (xs ++ ys) → NoneWrong xs
none_left [] ys a = tt
none_left (x ∷ xs) ys a = (a.0, none_left xs ys a.1)

pub none_right : (xs ys : List Fault) → NoneWrong (xs ++ ys) → NoneWrong ys
none_right [] ys a = a
none_right (x ∷ xs) ys a = none_right xs ys a.1

-- ---- chains

-- o goes by these faults, in their order, and where none of them is there, it is `rest`
pub data Judged (xs : List Fault) (o rest : Outcome) : Type 0 where
  wrong : (number place : ℕ) → FirstWrong xs number place → o ≡ refused (refusal number place) → Judged xs o rest
  right : NoneWrong xs → o ≡ rest → Judged xs o rest

-- where none is there, it goes on
pub judged_right : (xs : List Fault) (o rest : Outcome) → Judged xs o rest → NoneWrong xs → o ≡ rest
judged_right xs o rest (wrong number place f e) none = absurd (not_none xs number place f none)
judged_right xs o rest (right fine e) none = e

-- and what is accepted has none
pub judged_none : (xs : List Fault) (o rest : Outcome) (v : List ℕ) → Judged xs o rest → o ≡ accepted v → NoneWrong xs
judged_none xs o rest v (wrong number place f e) is = absurd (not_both (sym is ∙ e))
judged_none xs o rest v (right none e) is = none

pub judge_end : (o : Outcome) → Judged [] o o
judge_end o = right tt refl

pub judge_unless : (t : Bool) (number place : ℕ) (when : Type 0) → (t ≡ false → when) → (t ≡ true → when → ⊥)
    → {xs : List Fault} {o rest : Outcome} → Judged xs o rest → Judged (at number place when ∷ xs) (unless t number place o) rest
judge_unless true number place when yes₁ no₁ (wrong m q f e) = wrong m q (inr ((λ q w. no₁ refl w.1), f)) e
judge_unless true number place when yes₁ no₁ (right none e) = right ((λ q w. no₁ refl w.1), none) e
judge_unless false number place when yes₁ no₁ j = wrong number place (inl (refl, (refl, yes₁ refl))) refl

pub judge_lowest : {A : Type 0} (test : A → Bool) (d : A) (number : ℕ) (l : List A)
    → {xs : List Fault} {o rest : Outcome} → Judged xs o rest → Judged (lowest number test d l ∷ xs) (unless_at test number l o) rest
judge_lowest test d number l {xs = xs} {o = o} {rest = rest} j = go (eqb (first_bad test l) (length l)) refl j
  where
    none : eqb (first_bad test l) (length l) ≡ true → (q : ℕ) → Lowest test d l q → ⊥
    none t q low =
        let passed : test (get_or l q d) ≡ true = all_get (λ x. test x ≡ true) l q d (first_none test l (eqb-true (first_bad test l) (length l) t)) low.inside in
        true≢false (sym passed ∙ low.fails)

    go : (t : Bool) → eqb (first_bad test l) (length l) ≡ t → Judged xs o rest → Judged (lowest number test d l ∷ xs) (unless t number (first_bad test l) o) rest
    go true t (wrong m q f e) = wrong m q (inr (none t, f)) e
    go true t (right n e) = right (none t, n) e
    go false t k =
        let ne : first_bad test l ≡ length l → ⊥ = eqb-false (first_bad test l) (length l) t in
        let inside : first_bad test l < length l = omega (arith, first_le test l, ne) in
        wrong number (first_bad test l) (inl (refl, record { inside = inside; fails = first_fails test d l inside; passed = first_lowest test d l })) refl

pub judge_and : (xs ys : List Fault) (o p rest : Outcome) (v : List ℕ) → Judged xs o (accepted v) → Judged ys p rest → Judged (xs ++ ys) (and_then o p) rest
judge_and xs ys o p rest v (wrong number place f e) j = wrong number place (first_left xs ys number place f) (and_not o p (refusal number place) e)
judge_and xs ys o p rest v (right none e) (wrong number place f g) = wrong number place (first_right xs ys number place none f) (and_then_lem o p v e ∙ g)
judge_and xs ys o p rest v (right none e) (right more g) = right (none_both xs ys none more) (and_then_lem o p v e ∙ g)

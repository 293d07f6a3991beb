-- Calls in turn: the first k lists passed, and list k is refused or passes too; what an answer says of them, and what is left in a buffer.
-- Assumes nothing.
use mathlib.Core.Path.{◌≡◌, refl, sym, ap, ◌∙◌, subst}
use mathlib.Core.Logic.{◌⊎◌, inl, inr}
use mathlib.Core.List.{List}
use Prim.Native.Nat.{ℕ, zero, suc, ◌+◌, ◌≤◌, ◌<◌}
use native.Mathlib.Decide.{ℕ_discrete}
use native.Mathlib.Numerals.{add-one}
use native.Mathlib.Omega.{arith}
use lib.ListN.{length}
use Rattle.records.specs.declared.Refusal.{Refusal}
use Rattle.records.specs.Records.{zeros}
use Rattle.records.specs.Answers.{Outcome, accepted, refused, Accepts}
use Rattle.selector.specs.Answers.{MapOutcome, map_accepted, map_refused, list_refused, after_check, after_list, in_turn, after_map}

-- the three kinds of answer are apart
pub not_list : {x k : ℕ} {r : Refusal} → list_refused r k ≡ map_accepted x → ⊥
not_list e = let z : ◌≡◌ {A = ℕ} 0 1 = cc in omega arith

pub not_map : {k : ℕ} {r q : Refusal} → list_refused r k ≡ map_refused q → ⊥
not_map e = let z : ◌≡◌ {A = ℕ} 0 1 = cc in omega arith

pub answer_same : {x y : ℕ} → map_accepted x ≡ map_accepted y → x ≡ y
answer_same e = cc

module _ (f : ℕ → Outcome) where
  -- ---- the loop

  -- the calls on the first k lists are accepted
  unfoldable pub Passing : ℕ → Type 0
  Passing k = (rest : MapOutcome) → in_turn k f rest ≡ rest

  pub passing_none : Passing 0
  unfolding Passing in_turn
  passing_none rest = refl

  pub passing_more : (k : ℕ) → Passing k → Accepts (f k) → Passing (k + 1)
  unfolding Passing in_turn
  passing_more k p a rest =
      ap (λ (x : ℕ). in_turn x f rest) (add-one k) ∙ p (after_list k (f k) rest) ∙ ap (λ (o : Outcome). after_list k o rest) a.is

  pub passing_refused : (m k : ℕ) (r : Refusal) (rest : MapOutcome) → Passing k → k < m → f k ≡ refused r → in_turn m f rest ≡ list_refused r k
  unfolding Passing in_turn
  passing_refused zero k r rest p h e = absurd (omega arith)
  passing_refused (suc m) k r rest p h e = elim (ℕ_discrete k m) [
    | yes q ↦ subst (λ (x : ℕ). in_turn x f (after_list x (f x) rest) ≡ list_refused r k) q (p (after_list k (f k) rest) ∙ ap (λ (o : Outcome). after_list k o rest) e)
    | no d ↦ passing_refused m k r (after_list m (f m) rest) p (omega arith) e
  ]

  pub passing_all : (m k : ℕ) (rest : MapOutcome) → Passing k → k ≤ m → m ≤ k → in_turn m f rest ≡ rest
  unfolding Passing
  passing_all m k rest p h l = let e : m ≡ k = omega arith in ap (λ (x : ℕ). in_turn x f rest) e ∙ p rest

  -- ---- an accepted answer: each call was accepted

  tested : (k : ℕ) (o : Outcome) (rest : MapOutcome) (y : ℕ) → after_list k o rest ≡ map_accepted y → Accepts o × (rest ≡ map_accepted y)
  tested k (accepted v) rest y e = (record { values = v; is = refl }, e)
  tested k (refused r) rest y e = absurd (not_list e)

  pub turns_rest : (m : ℕ) (rest : MapOutcome) (y : ℕ) → in_turn m f rest ≡ map_accepted y → rest ≡ map_accepted y
  unfolding in_turn
  turns_rest zero rest y e = e
  turns_rest (suc m) rest y e = (tested m (f m) rest y (turns_rest m (after_list m (f m) rest) y e)).1

  pub turns_accept : (m : ℕ) (rest : MapOutcome) (y : ℕ) → in_turn m f rest ≡ map_accepted y → (k : ℕ) → k < m → Accepts (f k)
  unfolding in_turn
  turns_accept zero rest y e k h = absurd (omega arith)
  turns_accept (suc m) rest y e k h = elim (ℕ_discrete k m) [
    | yes q ↦ subst (λ (x : ℕ). Accepts (f x)) (sym q) (tested m (f m) rest y (turns_rest m (after_list m (f m) rest) y e)).0
    | no d ↦ turns_accept m (after_list m (f m) rest) y e k (omega arith)
  ]

  -- and back
  pub turns_pass : (m : ℕ) → ((k : ℕ) → k < m → Accepts (f k)) → Passing m
  unfolding Passing in_turn
  turns_pass zero h rest = refl
  turns_pass (suc m) h rest =
      turns_pass m (λ k l. h k (omega arith)) (after_list m (f m) rest) ∙ ap (λ (o : Outcome). after_list m o rest) (h m (omega arith)).is

-- ---- a refused list: list k's refusal, after the calls on those before it were accepted

pub record FoundAt (f : ℕ → Outcome) (m : ℕ) (r : Refusal) (k : ℕ) : Type 0 where
  pub below : k < m
  pub found : f k ≡ refused r
  pub before : (i : ℕ) → i < k → Accepts (f i)

record AllPassed (f : ℕ → Outcome) (m : ℕ) (rest : MapOutcome) (r : Refusal) (k : ℕ) : Type 0 where
  each : (i : ℕ) → i < m → Accepts (f i)
  after : rest ≡ list_refused r k

turns_split : (f : ℕ → Outcome) (m : ℕ) (rest : MapOutcome) (r : Refusal) (k : ℕ) → in_turn m f rest ≡ list_refused r k → FoundAt f m r k ⊎ AllPassed f m rest r k
unfolding in_turn
turns_split f zero rest r k e = inr (record { each = λ i h. absurd (omega arith); after = e })
turns_split f (suc m) rest r k e = go (f m) refl (turns_split f m (after_list m (f m) rest) r k e)
  where
    go : (o : Outcome) → f m ≡ o → FoundAt f m r k ⊎ AllPassed f m (after_list m (f m) rest) r k → FoundAt f (suc m) r k ⊎ AllPassed f (suc m) rest r k
    go o eo (inl x) = inl (record { below = omega (arith, x.below); found = x.found; before = x.before })
    go (accepted v) eo (inr x) =
        inr (record {
          each = λ i h. elim (ℕ_discrete i m) [
            | yes q ↦ subst (λ (n : ℕ). Accepts (f n)) (sym q) (record { values = v; is = eo })
            | no d ↦ x.each i (omega arith)
          ];
          after = sym (ap (λ (p : Outcome). after_list m p rest) eo) ∙ x.after;
        })
    go (refused q) eo (inr x) =
        let is : list_refused q m ≡ list_refused r k = sym (ap (λ (p : Outcome). after_list m p rest) eo) ∙ x.after in
        let same : q ≡ r = cc in
        let here : m ≡ k = cc in
        inl (record {
          below = omega (arith, here);
          found = ap f (sym here) ∙ eo ∙ ap refused same;
          before = λ i h. x.each i (omega (arith, here));
        })

pub turns_refused : (f : ℕ → Outcome) (m x : ℕ) (r : Refusal) (k : ℕ) → in_turn m f (map_accepted x) ≡ list_refused r k → FoundAt f m r k
turns_refused f m x r k e = elim (turns_split f m (map_accepted x) r k e) [ inl found ↦ found | inr all ↦ absurd (not_list (sym all.after)) ]

-- and back
pub found_refused : (f : ℕ → Outcome) (m : ℕ) (rest : MapOutcome) (r : Refusal) (k : ℕ) → FoundAt f m r k → in_turn m f rest ≡ list_refused r k
found_refused f m rest r k a = passing_refused f m k r rest (turns_pass f k a.before) a.below a.found

-- the lists in turn never refuse the whole map
tested_map : (k : ℕ) (o : Outcome) (rest : MapOutcome) (q : Refusal) → after_list k o rest ≡ map_refused q → rest ≡ map_refused q
tested_map k (accepted v) rest q e = e
tested_map k (refused r) rest q e = absurd (not_map e)

pub turns_map : (f : ℕ → Outcome) (m : ℕ) (rest : MapOutcome) (q : Refusal) → in_turn m f rest ≡ map_refused q → rest ≡ map_refused q
unfolding in_turn
turns_map f zero rest q e = e
turns_map f (suc m) rest q e = tested_map m (f m) rest q (turns_map f m (after_list m (f m) rest) q e)

-- a buffer that an accepted call leaves all zero is all zero after the lists in turn, whatever they answer
pub turns_zero : (f : ℕ → Outcome) (m x : ℕ) (new old : List ℕ) → new ≡ zeros (length old) → after_map (in_turn m f (map_accepted x)) new old ≡ zeros (length old)
turns_zero f m x new old e = go (in_turn m f (map_accepted x)) refl
  where
    go : (o : MapOutcome) → in_turn m f (map_accepted x) ≡ o → after_map o new old ≡ zeros (length old)
    go (map_accepted y) is = e
    go (map_refused q) is = let z : ◌≡◌ {A = ℕ} 0 1 = not_refused (turns_map f m (map_accepted x) q is) in absurd (omega arith)
      where
        not_refused : map_accepted x ≡ map_refused q → ◌≡◌ {A = ℕ} 0 1
        not_refused e = cc
    go (list_refused r k) is = refl

-- ---- the tests of the map

pub check_refused : (o : Outcome) (rest : MapOutcome) (r : Refusal) → o ≡ refused r → map_refused r ≡ after_check o rest
check_refused o rest r e = sym (ap (λ (x : Outcome). after_check x rest) e)

pub check_accepted : (o : Outcome) (rest : MapOutcome) (v : List ℕ) → o ≡ accepted v → after_check o rest ≡ rest
check_accepted o rest v e = ap (λ (x : Outcome). after_check x rest) e

pub check_answers : (o : Outcome) (rest : MapOutcome) (y : ℕ) → after_check o rest ≡ map_accepted y → Accepts o × (rest ≡ map_accepted y)
check_answers (accepted v) rest y e = (record { values = v; is = refl }, e)
check_answers (refused r) rest y e = let z : ◌≡◌ {A = ℕ} 0 1 = cc in absurd (omega arith)

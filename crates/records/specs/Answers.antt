-- What a call answers: document 01's values, or a refusal with its number, its place and its third answer. Document 01, "Refusal numbers and places";
-- document 02, Four: "give the number of differing variables as a third answer".
-- Assumes nothing.
use Rattle.std.specs.Prelude.{ℕ, ◌≡◌, Bool, true, false, List, [], ◌∷◌, eqb, length, Result, Ok, Err}
use Rattle.bits.specs.Sums.{first_bad}
use Rattle.records.specs.declared.Refusal.{Refusal}

-- the one way to make a refusal with the number of differing variables
abbrev pub refusal_with : ℕ → ℕ → ℕ → Refusal
refusal_with number place differing = record { number = number; place = place; differing = differing }

-- and a plain one: "In every other refusal the third answer is 0" (document 02, Four)
abbrev pub refusal : ℕ → ℕ → Refusal
refusal number place = refusal_with number place 0

-- accepted, with the values in document 01's order; or refused
pub data Outcome : Type 0 where
  accepted : List ℕ → Outcome
  refused : Refusal → Outcome

-- a chain of tests accepts
pub record Accepts (o : Outcome) : Type 0 where
  pub values : List ℕ
  pub is : o ≡ accepted values

-- the refusal with this number at this place, unless the test passes
abbrev pub unless : Bool → ℕ → ℕ → Outcome → Outcome
unless true number place rest = rest
unless false number place rest = refused (refusal number place)

-- the same where every element must pass: the place is the lowest that does not
abbrev pub unless_at : {A : Type 0} → (A → Bool) → ℕ → List A → Outcome → Outcome
unless_at test number l rest = unless (eqb (first_bad test l) (length l)) number (first_bad test l) rest

-- what is accepted is tested on, and a refusal stays
abbrev pub and_then : Outcome → Outcome → Outcome
and_then (accepted values) rest = rest
and_then (refused r) rest = refused r

-- a buffer after a call: what an accepted call makes of it, and after a refusal what it was
abbrev pub after_call : Outcome → List ℕ → List ℕ → List ℕ
after_call (accepted values) new old = new
after_call (refused r) new old = old

-- the values for each case of a call's answer
abbrev pub outcome_of : {A : Type 0} → (A → List ℕ) → Result A Refusal → Outcome
outcome_of values (Ok a) = accepted (values a)
outcome_of values (Err r) = refused r

-- of a count or a refusal
abbrev pub counted : Result ℕ Refusal → Outcome
counted = outcome_of (λ n. n ∷ [])

-- What `?` and `map_err` hand on of a call: the value itself, or its refusal with the list's number.
-- Assumes nothing.
use mathlib.Core.Path.{◌≡◌, refl, ap, ◌∙◌}
use Prim.Native.Nat.{ℕ}
use native.Mathlib.Omega.{arith}
use Rattle.std.specs.Prelude.{Result, Ok, Err, IsErr, IsErrAnd}
use Rattle.std.specs.Result.{MatchResult}
use Rattle.records.specs.declared.Refusal.{Refusal}
use Rattle.selector.specs.declared.MapRefusal.{MapRefusal}
use Rattle.selector.specs.Answers.{MapOutcome, map_told}

-- a value that was handed on is the call's own
pub known_ok : {A : Type 0} (r : Result A Refusal) (a : A) → MatchResult r (λ x. ◌≡◌ {A = Result A MapRefusal} (Ok a) (Ok x)) (λ e. ⊥) → r ≡ Ok a
known_ok (Ok x) a m = cc
known_ok (Err e) a m = absurd m

-- the call was refused, with what is known of its refusal
pub record Failed {A : Type 0} (r : Result A Refusal) (Known : Refusal → Type 0) : Type 0 where
  pub why : Refusal
  pub is : r ≡ Err why
  pub known : Known why

pub known_err : {A : Type 0} (r : Result A Refusal) (e : MapRefusal) (Known : Refusal → Type 0)
    → MatchResult r (λ x. ◌≡◌ {A = Result A MapRefusal} (Err e) (Ok x)) Known → Failed r Known
known_err (Ok x) e Known m = let z : ◌≡◌ {A = ℕ} 0 1 = cc in absurd (omega arith)
known_err (Err q) e Known m = record { why = q; is = refl; known = m }

-- a refusal that `?` handed on is told as it is
pub handed_map : (r : Result ℕ MapRefusal) (e : MapRefusal) (o : MapOutcome) → IsErr r × IsErrAnd r (λ (f : MapRefusal). f ≡ e) → map_told (Err e) ≡ o → map_told r ≡ o
handed_map (Ok a) e o p q = absurd p.1
handed_map (Err f) e o p q = ap (λ (x : MapRefusal). map_told (Err x)) p.1 ∙ q

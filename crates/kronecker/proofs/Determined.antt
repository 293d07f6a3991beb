-- Two outcomes that satisfy the contract of a public function of this crate are equal.
-- Assumes nothing.
use mathlib.Core.Path.{◌≡◌, refl, ap}
use mathlib.Core.List.{List}
use Prim.Native.Nat.{ℕ}
use lib.ListN.{get_or}
use Rattle.std.specs.Prelude.{Result}
use Rattle.bits.specs.Outcomes.{Determined}
use Rattle.bits.proofs.Determined.{same, same_told}
use Rattle.kronecker.specs.declared.WrittenKronecker.{WrittenKronecker}
use Rattle.records.specs.declared.Refusal.{Refusal}
use Rattle.records.proofs.Answers.{answer_back, answer_known}
use Rattle.records.specs.Answers.{Outcome}
use Rattle.kronecker.specs.Calls.{kronecker_listed}
use Rattle.kronecker.proofs.choice.write_kronecker.Kinds as write_kronecker_kinds
use Rattle.kronecker.proofs.choice.write_kronecker.Reads as write_kronecker_reads

-- the answer, read back
pub listed_value : List ℕ → WrittenKronecker
listed_value v = record { cost = get_or v 0 0; choice = get_or v 1 0; products = get_or v 2 0 }

pub listed_back : Outcome → Result WrittenKronecker Refusal
listed_back = answer_back listed_value

pub listed_known : (r : Result WrittenKronecker Refusal) → listed_back (kronecker_listed r) ≡ r
unfolding listed_value listed_back
listed_known = answer_known _ listed_value (λ a. refl)

pub write_kronecker_determined : Determined 2 write_kronecker_kinds.ps write_kronecker_kinds.r write_kronecker_reads.Learnt
write_kronecker_determined κs a z z' ws ws' p q =
    (same_told kronecker_listed listed_back listed_known p.0 q.0, ap (λ (b : List ℕ). (tt, (tt, (b, tt)))) (same p.1 q.1))

-- Two outcomes that satisfy the contract of the call are equal.
-- Assumes nothing.
use mathlib.Core.Path.{◌≡◌, refl, ap}
use mathlib.Core.List.{List}
use Prim.Native.Nat.{ℕ}
use lib.ListN.{get_or}
use Rattle.std.specs.Prelude.{Result}
use Rattle.bits.specs.Outcomes.{Determined}
use Rattle.bits.proofs.Determined.{same, same_told}
use Rattle.records.proofs.Answers.{answer_back, answer_known}
use Rattle.records.specs.declared.Refusal.{Refusal}
use Rattle.records.specs.Answers.{Outcome}
use Rattle.reasons.specs.declared.TrueProducts.{TrueProducts}
use Rattle.reasons.specs.Calls.{reasoned}
use Rattle.reasons.proofs.reasons.Kinds as reasons_kinds
use Rattle.reasons.proofs.reasons.Reads as reasons_reads

-- the answer, read back
reasoned_value : List ℕ → TrueProducts
reasoned_value v = record { count = get_or v 0 0; bit = get_or v 1 0 }

reasoned_back : Outcome → Result TrueProducts Refusal
reasoned_back = answer_back reasoned_value

reasoned_known : (r : Result TrueProducts Refusal) → reasoned_back (reasoned r) ≡ r
unfolding reasoned_value reasoned_back
reasoned_known = answer_known _ reasoned_value (λ a. refl)

pub reasons_determined : Determined 2 reasons_kinds.ps reasons_kinds.r reasons_reads.Learnt
reasons_determined κs a z z' ws ws' p q =
    (same_told reasoned reasoned_back reasoned_known p.0 q.0, ap (λ (b : List ℕ). (tt, (tt, (tt, (b, tt))))) (same p.1 q.1))

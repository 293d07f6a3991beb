-- Two outcomes that satisfy the contract of a public function of this crate are equal.
-- Assumes nothing.
use mathlib.Core.Path.{◌≡◌, refl, ap}
use mathlib.Core.List.{List}
use Prim.Native.Nat.{ℕ}
use lib.ListN.{get_or}
use Rattle.std.specs.Prelude.{Result}
use Rattle.bits.specs.Outcomes.{Determined}
use Rattle.bits.proofs.Determined.{same, same_told}
use Rattle.records.specs.declared.Refusal.{Refusal}
use Rattle.records.specs.Answers.{Outcome, counted}
use Rattle.records.proofs.Answers.{counted_back, counted_known, answer_back, answer_known}
use Rattle.polarity.specs.declared.BestPolarity.{BestPolarity}
use Rattle.polarity.specs.Calls.{found}
use Rattle.polarity.proofs.vector.check_vector.Kinds as check_vector_kinds
use Rattle.polarity.proofs.vector.check_vector.Reads as check_vector_reads
use Rattle.polarity.proofs.transform.coefficients.Kinds as coefficients_kinds
use Rattle.polarity.proofs.transform.coefficients.Reads as coefficients_reads
use Rattle.polarity.proofs.transform.vector_back.Kinds as vector_back_kinds
use Rattle.polarity.proofs.transform.vector_back.Reads as vector_back_reads
use Rattle.polarity.proofs.form.rank.Kinds as rank_kinds
use Rattle.polarity.proofs.form.rank.Reads as rank_reads
use Rattle.polarity.proofs.form.write_form.Kinds as write_form_kinds
use Rattle.polarity.proofs.form.write_form.Reads as write_form_reads
use Rattle.polarity.proofs.choose.best_polarity.Kinds as best_polarity_kinds
use Rattle.polarity.proofs.choose.best_polarity.Reads as best_polarity_reads

-- the best polarity's answer, read back
pub found_value : List ℕ → BestPolarity
found_value v = record { polarity = get_or v 0 0; products = get_or v 1 0 }

pub found_back : Outcome → Result BestPolarity Refusal
found_back = answer_back found_value

pub found_known : (r : Result BestPolarity Refusal) → found_back (found r) ≡ r
unfolding found_value found_back
found_known = answer_known _ found_value (λ a. refl)

pub check_vector_determined : Determined 1 check_vector_kinds.ps check_vector_kinds.r check_vector_reads.Learnt
check_vector_determined κs a z z' ws ws' p q = (same_told counted counted_back counted_known p q, refl)

pub coefficients_determined : Determined 2 coefficients_kinds.ps coefficients_kinds.r coefficients_reads.Learnt
coefficients_determined κs a z z' ws ws' p q =
    (same_told counted counted_back counted_known p.0 q.0, ap (λ (b : List ℕ). (tt, (tt, (tt, (b, tt))))) (same p.1 q.1))

pub vector_back_determined : Determined 2 vector_back_kinds.ps vector_back_kinds.r vector_back_reads.Learnt
vector_back_determined κs a z z' ws ws' p q =
    (same_told counted counted_back counted_known p.0 q.0, ap (λ (b : List ℕ). (tt, (tt, (tt, (b, tt))))) (same p.1 q.1))

pub rank_determined : Determined 0 rank_kinds.ps rank_kinds.r rank_reads.Learnt
rank_determined κs a z z' ws ws' p q = (same p q, refl)

pub write_form_determined : Determined 2 write_form_kinds.ps write_form_kinds.r write_form_reads.Learnt
write_form_determined κs a z z' ws ws' p q =
    (same_told counted counted_back counted_known p.0 q.0, ap (λ (b : List ℕ). (tt, (tt, (tt, (b, tt))))) (same p.1 q.1))

pub best_polarity_determined : Determined 1 best_polarity_kinds.ps best_polarity_kinds.r best_polarity_reads.Learnt
best_polarity_determined κs a z z' ws ws' p q = (same_told found found_back found_known p q, refl)

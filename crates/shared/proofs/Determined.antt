-- Two outcomes that satisfy the contract of a public function of this crate are equal.
-- Assumes nothing.
use mathlib.Core.Path.{◌≡◌, refl, ap}
use mathlib.Core.List.{List}
use Prim.Native.Nat.{ℕ}
use lib.ListN.{get_or}
use Rattle.std.specs.Prelude.{Result}
use Rattle.bits.specs.Outcomes.{Determined}
use Rattle.bits.proofs.Determined.{same, same_told}
use Rattle.records.specs.declared.Refusal.{Refusal}
use Rattle.records.specs.Answers.{Outcome, counted}
use Rattle.records.proofs.Answers.{counted_back, counted_known, answer_back, answer_known}
use Rattle.shared.specs.Calls.{worded}
use Rattle.shared.proofs.record.record_at.Kinds as record_at_kinds
use Rattle.shared.proofs.record.record_at.Reads as record_at_reads
use Rattle.shared.proofs.record.put_record.Kinds as put_record_kinds
use Rattle.shared.proofs.record.put_record.Reads as put_record_reads
use Rattle.shared.proofs.list.capacity.Kinds as capacity_kinds
use Rattle.shared.proofs.list.capacity.Reads as capacity_reads
use Rattle.shared.proofs.list.check.Kinds as check_kinds
use Rattle.shared.proofs.list.check.Reads as check_reads
use Rattle.shared.proofs.value.value.Kinds as value_kinds
use Rattle.shared.proofs.value.value.Reads as value_reads

-- the value call's answer, read back
pub worded_value : List ℕ → ℕ
worded_value v = (get_or v 0 0)

pub worded_back : Outcome → Result ℕ Refusal
worded_back = answer_back worded_value

pub worded_known : (r : Result ℕ Refusal) → worded_back (worded r) ≡ r
unfolding worded_value worded_back
worded_known = answer_known _ worded_value (λ a. refl)

pub record_at_determined : Determined 1 record_at_kinds.ps record_at_kinds.r record_at_reads.Learnt
record_at_determined κs a z z' ws ws' p q = (same p q, refl)

pub put_record_determined : Determined 1 put_record_kinds.ps put_record_kinds.r put_record_reads.Learnt
put_record_determined κs a z z' ws ws' p q = (refl, ap (λ (b : List ℕ). (b, (tt, (tt, tt)))) (same p q))

pub capacity_determined : Determined 0 capacity_kinds.ps capacity_kinds.r capacity_reads.Learnt
capacity_determined κs a z z' ws ws' p q = (same p q, refl)

pub check_determined : Determined 1 check_kinds.ps check_kinds.r check_reads.Learnt
check_determined κs a z z' ws ws' p q = (same_told counted counted_back counted_known p q, refl)

pub value_determined : Determined 1 value_kinds.ps value_kinds.r value_reads.Learnt
value_determined κs a z z' ws ws' p q = (same_told worded worded_back worded_known p q, refl)

-- Two outcomes that satisfy the contract of a public function of this crate are equal.
-- Assumes nothing.
use mathlib.Core.Path.{◌≡◌, refl, ap}
use mathlib.Core.List.{List}
use Prim.Native.Nat.{ℕ}
use lib.ListN.{get_or}
use Rattle.std.specs.Prelude.{Result}
use Rattle.bits.specs.Outcomes.{Determined}
use Rattle.bits.proofs.Determined.{same, same_told}
use Rattle.records.specs.declared.Refusal.{Refusal}
use Rattle.records.specs.Answers.{Outcome, counted}
use Rattle.records.proofs.Answers.{counted_back, counted_known, answer_back, answer_known}
use Rattle.cube.specs.declared.ValueAt.{ValueAt}
use Rattle.cube.specs.Calls.{valued}
use Rattle.cube.proofs.Cube.literal.Kinds as literal_kinds
use Rattle.cube.proofs.Cube.literal.Reads as literal_reads
use Rattle.cube.proofs.Cube.of_record.Kinds as of_record_kinds
use Rattle.cube.proofs.Cube.of_record.Reads as of_record_reads
use Rattle.cube.proofs.Cube.put_in.Kinds as put_in_kinds
use Rattle.cube.proofs.Cube.put_in.Reads as put_in_reads
use Rattle.cube.proofs.Cube.code_at.Kinds as code_at_kinds
use Rattle.cube.proofs.Cube.code_at.Reads as code_at_reads
use Rattle.cube.proofs.Cube.with_code.Kinds as with_code_kinds
use Rattle.cube.proofs.Cube.with_code.Reads as with_code_reads
use Rattle.cube.proofs.variables_below.Kinds as variables_below_kinds
use Rattle.cube.proofs.variables_below.Reads as variables_below_reads
use Rattle.cube.proofs.Cube.is_within.Kinds as is_within_kinds
use Rattle.cube.proofs.Cube.is_within.Reads as is_within_reads
use Rattle.cube.proofs.Cube.is_good.Kinds as is_good_kinds
use Rattle.cube.proofs.Cube.is_good.Reads as is_good_reads
use Rattle.cube.proofs.Cube.holds_at.Kinds as holds_at_kinds
use Rattle.cube.proofs.Cube.holds_at.Reads as holds_at_reads
use Rattle.cube.proofs.Cube.differing.Kinds as differing_kinds
use Rattle.cube.proofs.Cube.differing.Reads as differing_reads
use Rattle.cube.proofs.list.capacity.Kinds as capacity_kinds
use Rattle.cube.proofs.list.capacity.Reads as capacity_reads
use Rattle.cube.proofs.record.record_at.Kinds as record_at_kinds
use Rattle.cube.proofs.record.record_at.Reads as record_at_reads
use Rattle.cube.proofs.record.bare_at.Kinds as bare_at_kinds
use Rattle.cube.proofs.record.bare_at.Reads as bare_at_reads
use Rattle.cube.proofs.record.cube_at.Kinds as cube_at_kinds
use Rattle.cube.proofs.record.cube_at.Reads as cube_at_reads
use Rattle.cube.proofs.record.differing_at.Kinds as differing_at_kinds
use Rattle.cube.proofs.record.differing_at.Reads as differing_at_reads
use Rattle.cube.proofs.record.put_record.Kinds as put_record_kinds
use Rattle.cube.proofs.record.put_record.Reads as put_record_reads
use Rattle.cube.proofs.record.put_cube.Kinds as put_cube_kinds
use Rattle.cube.proofs.record.put_cube.Reads as put_cube_reads
use Rattle.cube.proofs.list.check_within.Kinds as check_within_kinds
use Rattle.cube.proofs.list.check_within.Reads as check_within_reads
use Rattle.cube.proofs.list.check.Kinds as check_kinds
use Rattle.cube.proofs.list.check.Reads as check_reads
use Rattle.cube.proofs.value.check_at.Kinds as check_at_kinds
use Rattle.cube.proofs.value.check_at.Reads as check_at_reads
use Rattle.cube.proofs.value.value.Kinds as value_kinds
use Rattle.cube.proofs.value.value.Reads as value_reads
use Rattle.cube.proofs.value.truth_vector.Kinds as truth_vector_kinds
use Rattle.cube.proofs.value.truth_vector.Reads as truth_vector_reads

-- the value call's answer, read back
pub valued_value : List ℕ → ValueAt
valued_value v = record { bit = get_or v 0 0; trues = get_or v 1 0 }

pub valued_back : Outcome → Result ValueAt Refusal
valued_back = answer_back valued_value

pub valued_known : (r : Result ValueAt Refusal) → valued_back (valued r) ≡ r
unfolding valued_value valued_back
valued_known = answer_known _ valued_value (λ a. refl)

pub literal_determined : Determined 0 literal_kinds.ps literal_kinds.r literal_reads.Learnt
literal_determined κs a z z' ws ws' p q = (same p q, refl)

pub of_record_determined : Determined 1 of_record_kinds.ps of_record_kinds.r of_record_reads.Learnt
of_record_determined κs a z z' ws ws' p q = (same p q, refl)

pub put_in_determined : Determined 1 put_in_kinds.ps put_in_kinds.r put_in_reads.Learnt
put_in_determined κs a z z' ws ws' p q = (refl, ap (λ (b : List ℕ). (tt, (b, tt))) (same p q))

pub code_at_determined : Determined 0 code_at_kinds.ps code_at_kinds.r code_at_reads.Learnt
code_at_determined κs a z z' ws ws' p q = (same p q, refl)

pub with_code_determined : Determined 0 with_code_kinds.ps with_code_kinds.r with_code_reads.Learnt
with_code_determined κs a z z' ws ws' p q = (same p q, refl)

pub variables_below_determined : Determined 0 variables_below_kinds.ps variables_below_kinds.r variables_below_reads.Learnt
variables_below_determined κs a z z' ws ws' p q = (same p q, refl)

pub is_within_determined : Determined 0 is_within_kinds.ps is_within_kinds.r is_within_reads.Learnt
is_within_determined κs a z z' ws ws' p q = (same p q, refl)

pub is_good_determined : Determined 0 is_good_kinds.ps is_good_kinds.r is_good_reads.Learnt
is_good_determined κs a z z' ws ws' p q = (same p q, refl)

pub holds_at_determined : Determined 0 holds_at_kinds.ps holds_at_kinds.r holds_at_reads.Learnt
holds_at_determined κs a z z' ws ws' p q = (same p.fixed q.fixed, refl)

pub differing_determined : Determined 0 differing_kinds.ps differing_kinds.r differing_reads.Learnt
differing_determined κs a z z' ws ws' p q = (same p.fixed q.fixed, refl)

pub capacity_determined : Determined 0 capacity_kinds.ps capacity_kinds.r capacity_reads.Learnt
capacity_determined κs a z z' ws ws' p q = (same p q, refl)

pub record_at_determined : Determined 1 record_at_kinds.ps record_at_kinds.r record_at_reads.Learnt
record_at_determined κs a z z' ws ws' p q = (same p q, refl)

pub bare_at_determined : Determined 1 bare_at_kinds.ps bare_at_kinds.r bare_at_reads.Learnt
bare_at_determined κs a z z' ws ws' p q = (same p q, refl)

pub cube_at_determined : Determined 1 cube_at_kinds.ps cube_at_kinds.r cube_at_reads.Learnt
cube_at_determined κs a z z' ws ws' p q = (same p q, refl)

pub differing_at_determined : Determined 1 differing_at_kinds.ps differing_at_kinds.r differing_at_reads.Learnt
differing_at_determined κs a z z' ws ws' p q = (same p.fixed q.fixed, refl)

pub put_record_determined : Determined 1 put_record_kinds.ps put_record_kinds.r put_record_reads.Learnt
put_record_determined κs a z z' ws ws' p q = (refl, ap (λ (b : List ℕ). (b, (tt, (tt, tt)))) (same p q))

pub put_cube_determined : Determined 1 put_cube_kinds.ps put_cube_kinds.r put_cube_reads.Learnt
put_cube_determined κs a z z' ws ws' p q = (refl, ap (λ (b : List ℕ). (b, (tt, (tt, tt)))) (same p q))

pub check_within_determined : Determined 1 check_within_kinds.ps check_within_kinds.r check_within_reads.Learnt
check_within_determined κs a z z' ws ws' p q = (same_told counted counted_back counted_known p q, refl)

pub check_determined : Determined 1 check_kinds.ps check_kinds.r check_reads.Learnt
check_determined κs a z z' ws ws' p q = (same_told counted counted_back counted_known p q, refl)

pub check_at_determined : Determined 1 check_at_kinds.ps check_at_kinds.r check_at_reads.Learnt
check_at_determined κs a z z' ws ws' p q = (same_told counted counted_back counted_known p q, refl)

pub value_determined : Determined 1 value_kinds.ps value_kinds.r value_reads.Learnt
value_determined κs a z z' ws ws' p q = (same_told valued valued_back valued_known p q, refl)

pub truth_vector_determined : Determined 2 truth_vector_kinds.ps truth_vector_kinds.r truth_vector_reads.Learnt
truth_vector_determined κs a z z' ws ws' p q =
    (same_told counted counted_back counted_known p.0 q.0, ap (λ (b : List ℕ). (tt, (tt, (b, tt)))) (same p.1 q.1))

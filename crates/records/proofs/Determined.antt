-- Two outcomes that satisfy the contract of a public function of this crate are equal.
-- Assumes nothing.
use mathlib.Core.Path.{◌≡◌, refl, ap}
use mathlib.Core.List.{List}
use Prim.Native.Nat.{ℕ}
use denote.RattleType.{RattleType}
use denote.Param.Laws.{Laws, IsCopy}
use mir.Syntax.{Dict}
use Rattle.std.specs.declared.clone.Clone as clone
use Rattle.bits.specs.Outcomes.{Determined}
use Rattle.bits.proofs.Determined.{same, same_told}
use Rattle.std.specs.Prelude.{Result, Ok, Err}
use Rattle.records.specs.declared.kind.Kind as kind
use Rattle.records.specs.declared.reason.Reason.{Reason}
use Rattle.records.specs.declared.reason.UnknownReason.{UnknownReason}
use Rattle.records.specs.Answers.{counted}
use Rattle.records.specs.Reasons.{ReadAs}
use Rattle.records.proofs.Answers.{counted_back, counted_known}
use Rattle.records.proofs.Reasons.{one_reason, no_reason}
use Rattle.records.proofs.Refusal.new.Kinds as new_kinds
use Rattle.records.proofs.Refusal.new.Reads as new_reads
use Rattle.records.proofs.Refusal.with_differing.Kinds as with_differing_kinds
use Rattle.records.proofs.Refusal.with_differing.Reads as with_differing_reads
use Rattle.records.proofs.reason.Reason.at.Kinds as at_kinds
use Rattle.records.proofs.reason.Reason.at.Reads as at_reads
use Rattle.records.proofs.clear.Kinds as clear_kinds
use Rattle.records.proofs.clear.Reads as clear_reads
use Rattle.records.proofs.fill.Kinds as fill_kinds
use Rattle.records.proofs.fill.Reads as fill_reads
use Rattle.records.proofs.numbers.number2_at.Kinds as number2_at_kinds
use Rattle.records.proofs.numbers.number2_at.Reads as number2_at_reads
use Rattle.records.proofs.numbers.number4_at.Kinds as number4_at_kinds
use Rattle.records.proofs.numbers.number4_at.Reads as number4_at_reads
use Rattle.records.proofs.numbers.put_number2.Kinds as put_number2_kinds
use Rattle.records.proofs.numbers.put_number2.Reads as put_number2_reads
use Rattle.records.proofs.numbers.put_number4.Kinds as put_number4_kinds
use Rattle.records.proofs.numbers.put_number4.Reads as put_number4_reads
use Rattle.records.proofs.place.place_at.Kinds as place_at_kinds
use Rattle.records.proofs.place.place_at.Reads as place_at_reads
use Rattle.records.proofs.place.put_place.Kinds as put_place_kinds
use Rattle.records.proofs.place.put_place.Reads as put_place_reads
use Rattle.records.proofs.kind.Kind.read.Kinds as kind_read_kinds
use Rattle.records.proofs.kind.Kind.read.Reads as kind_read_reads
use Rattle.records.proofs.kind.Kind.is_good_at.Kinds as kind_is_good_at_kinds
use Rattle.records.proofs.kind.Kind.is_good_at.Reads as kind_is_good_at_reads
use Rattle.records.proofs.kind.Kind.write.Kinds as kind_write_kinds
use Rattle.records.proofs.kind.Kind.write.Reads as kind_write_reads
use Rattle.records.proofs.kind.count.Kinds as count_kinds
use Rattle.records.proofs.kind.count.Reads as count_reads
use Rattle.records.proofs.kind.capacity.Kinds as capacity_kinds
use Rattle.records.proofs.kind.capacity.Reads as capacity_reads
use Rattle.records.proofs.kind.item_at.Kinds as item_at_kinds
use Rattle.records.proofs.kind.item_at.Reads as item_at_reads
use Rattle.records.proofs.kind.put_item.Kinds as put_item_kinds
use Rattle.records.proofs.kind.put_item.Reads as put_item_reads
use Rattle.records.proofs.list.first_bad.Kinds as first_bad_kinds
use Rattle.records.proofs.list.first_bad.Reads as first_bad_reads
use Rattle.records.proofs.list.check.Kinds as check_kinds
use Rattle.records.proofs.list.check.Reads as check_reads
use Rattle.records.proofs.list.check_within.Kinds as check_within_kinds
use Rattle.records.proofs.list.check_within.Reads as check_within_reads
use Rattle.records.proofs.list.carry_all.Kinds as carry_all_kinds
use Rattle.records.proofs.list.carry_all.Reads as carry_all_reads
use Rattle.records.proofs.reason.ReasonTryFromU8.try_from.Kinds as try_from_kinds
use Rattle.records.proofs.reason.ReasonTryFromU8.try_from.Reads as try_from_reads

pub new_determined : Determined 0 new_kinds.ps new_kinds.r new_reads.Learnt
new_determined κs a z z' ws ws' p q = (same p q, refl)

pub with_differing_determined : Determined 0 with_differing_kinds.ps with_differing_kinds.r with_differing_reads.Learnt
with_differing_determined κs a z z' ws ws' p q = (same p q, refl)

pub at_determined : Determined 0 at_kinds.ps at_kinds.r at_reads.Learnt
at_determined κs a z z' ws ws' p q = (same p q, refl)

pub clear_determined : Determined 1 clear_kinds.ps clear_kinds.r clear_reads.Learnt
clear_determined κs a z z' ws ws' p q = (refl, ap (λ (b : List ℕ). (b, tt)) (same p q))

pub fill_determined : Determined 2 fill_kinds.ps fill_kinds.r fill_reads.Learnt
fill_determined κs a z z' ws ws' p q = (refl, ap (λ (b : List ℕ). (b, (tt, tt))) (same p q))

pub number2_at_determined : Determined 1 number2_at_kinds.ps number2_at_kinds.r number2_at_reads.Learnt
number2_at_determined κs a z z' ws ws' p q = (same p q, refl)

pub number4_at_determined : Determined 1 number4_at_kinds.ps number4_at_kinds.r number4_at_reads.Learnt
number4_at_determined κs a z z' ws ws' p q = (same p q, refl)

pub put_number2_determined : Determined 1 put_number2_kinds.ps put_number2_kinds.r put_number2_reads.Learnt
put_number2_determined κs a z z' ws ws' p q = (refl, ap (λ (b : List ℕ). (b, (tt, (tt, tt)))) (same p q))

pub put_number4_determined : Determined 1 put_number4_kinds.ps put_number4_kinds.r put_number4_reads.Learnt
put_number4_determined κs a z z' ws ws' p q = (refl, ap (λ (b : List ℕ). (b, (tt, (tt, tt)))) (same p q))

pub place_at_determined : Determined 1 place_at_kinds.ps place_at_kinds.r place_at_reads.Learnt
place_at_determined κs a z z' ws ws' p q = (same p q, refl)

pub put_place_determined : Determined 1 put_place_kinds.ps put_place_kinds.r put_place_reads.Learnt
put_place_determined κs a z z' ws ws' p q = (refl, ap (λ (b : List ℕ). (b, (tt, (tt, tt)))) (same p q))

-- the reason that has a number, and the number where none has it
read_once : (n : ℕ) (z z' : Result Reason UnknownReason) → ReadAs n z → ReadAs n z' → z ≡ z'
read_once n (Ok r) (Ok s) p q = ap Ok (one_reason r s (same p q))
read_once n (Ok r) (Err e) p q = absurd (no_reason r n p q.1)
read_once n (Err e) (Ok s) p q = absurd (no_reason s n q p.1)
read_once n (Err e) (Err f) p q = ap (λ (k : ℕ). Err (record { number = k })) (same p.0 q.0)

pub try_from_determined : Determined 0 try_from_kinds.ps try_from_kinds.r try_from_reads.Learnt
try_from_determined κs a z z' ws ws' p q = (read_once _ z z' p q, refl)

-- ---- for every kind of record

module _ (K Item : RattleType) (laws : Laws K) (item_laws : Laws Item) (copies : IsCopy Item) (kinds : kind.Ghosts K.Denot Item.Denot) (kind : Dict)
    (clones : clone.Ghosts Item.Denot) (clone : Dict) where
  pub kind_read_determined : Determined 3 (kind_read_kinds.ps K Item laws item_laws copies) (kind_read_kinds.r K Item laws item_laws copies)
      (kind_read_reads.Learnt K Item laws item_laws copies kinds kind clones clone)
  kind_read_determined κs a z z' ws ws' p q = (same p q, refl)

  pub kind_is_good_at_determined : Determined 3 (kind_is_good_at_kinds.ps K Item laws item_laws copies) (kind_is_good_at_kinds.r K Item laws item_laws copies)
      (kind_is_good_at_reads.Learnt K Item laws item_laws copies kinds kind clones clone)
  kind_is_good_at_determined κs a z z' ws ws' p q = (same p q, refl)

  pub kind_write_determined : Determined 3 (kind_write_kinds.ps K Item laws item_laws copies) (kind_write_kinds.r K Item laws item_laws copies)
      (kind_write_reads.Learnt K Item laws item_laws copies kinds kind clones clone)
  kind_write_determined κs a z z' ws ws' p q = (refl, ap (λ (b : List ℕ). (tt, (b, tt))) (same p q))

  pub count_determined : Determined 3 (count_kinds.ps K Item laws item_laws copies) (count_kinds.r K Item laws item_laws copies)
      (count_reads.Learnt K Item laws item_laws copies kinds kind clones clone)
  count_determined κs a z z' ws ws' p q = (same p q, refl)

  pub capacity_determined : Determined 2 (capacity_kinds.ps K Item laws item_laws copies) (capacity_kinds.r K Item laws item_laws copies)
      (capacity_reads.Learnt K Item laws item_laws copies kinds kind clones clone)
  capacity_determined κs a z z' ws ws' p q = (same p q, refl)

  pub item_at_determined : Determined 3 (item_at_kinds.ps K Item laws item_laws copies) (item_at_kinds.r K Item laws item_laws copies)
      (item_at_reads.Learnt K Item laws item_laws copies kinds kind clones clone)
  item_at_determined κs a z z' ws ws' p q = (same p q, refl)

  pub put_item_determined : Determined 3 (put_item_kinds.ps K Item laws item_laws copies) (put_item_kinds.r K Item laws item_laws copies)
      (put_item_reads.Learnt K Item laws item_laws copies kinds kind clones clone)
  put_item_determined κs a z z' ws ws' p q = (refl, ap (λ (b : List ℕ). (b, (tt, (tt, tt)))) (same p q))

  pub first_bad_determined : Determined 3 (first_bad_kinds.ps K Item laws item_laws copies) (first_bad_kinds.r K Item laws item_laws copies)
      (first_bad_reads.Learnt K Item laws item_laws copies kinds kind clones clone)
  first_bad_determined κs a z z' ws ws' p q = (same p q, refl)

  pub check_determined : Determined 3 (check_kinds.ps K Item laws item_laws copies) (check_kinds.r K Item laws item_laws copies)
      (check_reads.Learnt K Item laws item_laws copies kinds kind clones clone)
  check_determined κs a z z' ws ws' p q = (same_told counted counted_back counted_known p q, refl)

  pub check_within_determined : Determined 3 (check_within_kinds.ps K Item laws item_laws copies) (check_within_kinds.r K Item laws item_laws copies)
      (check_within_reads.Learnt K Item laws item_laws copies kinds kind clones clone)
  check_within_determined κs a z z' ws ws' p q = (same_told counted counted_back counted_known p q, refl)

-- from every kind to every other of the same item
pub carry_all_determined : (From To Item : RattleType) (from_laws : Laws From) (to_laws : Laws To) (item_laws : Laws Item) (copies : IsCopy Item)
    (froms : kind.Ghosts From.Denot Item.Denot) (from : Dict) (clones : clone.Ghosts Item.Denot) (clone : Dict) (tos : kind.Ghosts To.Denot Item.Denot) (to : Dict)
    → Determined 5 (carry_all_kinds.ps From To Item from_laws to_laws item_laws copies) (carry_all_kinds.r From To Item from_laws to_laws item_laws copies)
    (carry_all_reads.Learnt From To Item from_laws to_laws item_laws copies froms from clones clone tos to)
carry_all_determined From To Item from_laws to_laws item_laws copies froms from clones clone tos to κs a z z' ws ws' p q =
    (refl, ap (λ (b : List ℕ). (tt, (b, tt))) (same p q))

-- Two outcomes that satisfy the contract of a public call of this crate are equal.
-- Assumes nothing.
use mathlib.Core.Path.{◌≡◌, refl, ap, ap₂}
use mathlib.Core.List.{List}
use Prim.Native.Nat.{ℕ}
use Rattle.std.specs.Prelude.{Option, Some, None, Result, Ok, Err}
use Rattle.bits.specs.Outcomes.{Determined}
use Rattle.bits.proofs.Determined.{same, same_told}
use Rattle.records.specs.declared.Refusal.{Refusal}
use Rattle.selector.specs.declared.MapRefusal.{MapRefusal}
use Rattle.selector.specs.Refusals.{of_map, of_list}
use Rattle.selector.specs.declared.ByList.{ByList}
use Rattle.selector.specs.Answers.{MapOutcome, map_accepted, map_refused, list_refused, refused_at, map_told}
use Rattle.selector.proofs.MapRefusalFromRefusal.from.Kinds as from_kinds
use Rattle.selector.proofs.MapRefusalFromRefusal.from.Reads as from_reads
use Rattle.selector.proofs.MapRefusal.of_list.Kinds as of_list_kinds
use Rattle.selector.proofs.MapRefusal.of_list.Reads as of_list_reads
use Rattle.selector.proofs.slot.slot.Kinds as slot_kinds
use Rattle.selector.proofs.slot.slot.Reads as slot_reads
use Rattle.selector.proofs.map_reasons.reasons_into.Kinds as reasons_into_kinds
use Rattle.selector.proofs.map_reasons.reasons_into.Reads as reasons_into_reads
use Rattle.selector.proofs.map_reasons.map_reasons.Kinds as map_reasons_kinds
use Rattle.selector.proofs.map_reasons.map_reasons.Reads as map_reasons_reads
use Rattle.selector.proofs.settle_map.settle_map.Kinds as settle_map_kinds
use Rattle.selector.proofs.settle_map.settle_map.Reads as settle_map_reads

-- the answer, read back
pub map_back : MapOutcome → Result ℕ MapRefusal
map_back (map_accepted x) = Ok x
map_back (map_refused r) = Err (of_map r)
map_back (list_refused r k) = Err (of_list r k)

pub map_known : (a : Result ℕ MapRefusal) → map_back (map_told a) ≡ a
unfolding map_back
map_known (Ok x) = refl
map_known (Err e) = same_refusal e.refusal e.list
  where
    same_refusal : (r : Refusal) (l : Option ℕ) → map_back (refused_at r l) ≡ Err (record { refusal = r; list = l })
    same_refusal r None = refl
    same_refusal r (Some k) = refl

pub from_determined : Determined 0 from_kinds.ps from_kinds.r from_reads.Learnt
from_determined κs a z z' ws ws' p q = (same p q, refl)

pub of_list_determined : Determined 0 of_list_kinds.ps of_list_kinds.r of_list_reads.Learnt
of_list_determined κs a z z' ws ws' p q = (same p q, refl)

pub slot_determined : Determined 2 slot_kinds.ps slot_kinds.r slot_reads.Learnt
slot_determined κs a z z' ws ws' p q = (same_told map_told map_back map_known p q, refl)

pub reasons_into_determined : Determined 4 reasons_into_kinds.ps reasons_into_kinds.r reasons_into_reads.Learnt
reasons_into_determined κs a z z' ws ws' p q = (
  same_told map_told map_back map_known p.answer q.answer,
  ap₂ (λ (o e : List ℕ). (tt, (tt, (tt, (tt, (o, (e, tt))))))) (same p.out_is q.out_is) (same p.numbers q.numbers),
)

made : Result ℕ MapRefusal → List ℕ → ByList
made a l = record { answer = a; each = l }

pub map_reasons_determined : Determined 3 map_reasons_kinds.ps map_reasons_kinds.r map_reasons_reads.Learnt
unfolding made
map_reasons_determined κs a z z' ws ws' p q = (
  ap₂ made (same_told map_told map_back map_known p.answer q.answer) (same p.numbers q.numbers),
  ap (λ (o : List ℕ). (tt, (tt, (tt, (tt, (o, tt)))))) (same p.out_is q.out_is),
)

pub settle_map_determined : Determined 6 settle_map_kinds.ps settle_map_kinds.r settle_map_reads.Learnt
unfolding made
settle_map_determined κs a z z' ws ws' p q = (
  ap₂ made (same_told map_told map_back map_known p.answer q.answer) (same p.lengths q.lengths),
  ap₂ (λ (w o : List ℕ). (tt, (tt, (tt, (tt, (tt, (w, (o, tt)))))))) (same p.work_is q.work_is) (same p.out_is q.out_is),
)

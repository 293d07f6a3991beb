-- Two outcomes that satisfy the contract of a public function of this crate are equal; of a part that is handed back, the bytes that it holds.
-- Assumes nothing.
use mathlib.Core.Path.{◌≡◌, refl, ap}
use mathlib.Core.List.{List}
use Prim.Native.Nat.{ℕ}
use Rattle.bits.specs.Outcomes.{Determined, DeterminedBy}
use Rattle.bits.proofs.Determined.{same, same_told}
use Rattle.records.specs.Answers.{counted}
use Rattle.records.proofs.Answers.{counted_back, counted_known}
use Rattle.index.specs.declared.Indexed.{Indexed}
use Rattle.index.proofs.build.build.Kinds as build_kinds
use Rattle.index.proofs.build.build.Reads as build_reads
use Rattle.index.proofs.build.rebuild.Kinds as rebuild_kinds
use Rattle.index.proofs.build.rebuild.Reads as rebuild_reads
use Rattle.index.proofs.group.group_count.Kinds as group_count_kinds
use Rattle.index.proofs.group.group_count.Reads as group_count_reads
use Rattle.index.proofs.group.group.Kinds as group_kinds
use Rattle.index.proofs.group.group.Reads as group_reads

indexed_same : (x y : Indexed) → x.answer ≡ y.answer → x.starts ≡ y.starts → x ≡ y
indexed_same x y e f = λ i. record { answer = e i; starts = f i }

pub build_determined : Determined 2 build_kinds.ps build_kinds.r build_reads.Learnt
build_determined κs a z z' ws ws' p q = (
  indexed_same z z' (same_told counted counted_back counted_known p.0 q.0) (same p.1.0 q.1.0),
  ap (λ (b : List ℕ). (tt, (tt, (b, tt)))) (same p.1.1 q.1.1),
)

pub rebuild_determined : Determined 2 rebuild_kinds.ps rebuild_kinds.r rebuild_reads.Learnt
rebuild_determined κs a z z' ws ws' p q = (same p.0 q.0, ap (λ (b : List ℕ). (tt, (tt, (tt, (b, tt))))) (same p.1 q.1))

pub group_count_determined : Determined 2 group_count_kinds.ps group_count_kinds.r group_count_reads.Learnt
group_count_determined κs a z z' ws ws' p q = (same_told counted counted_back counted_known p q, refl)

pub group_determined : DeterminedBy 2 group_kinds.ps group_kinds.r (λ κs z. z.now) group_reads.Learnt
group_determined κs a z z' ws ws' p q = (same p q, refl)

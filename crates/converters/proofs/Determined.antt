-- Two outcomes that satisfy the contract of a public function of this crate are equal.
-- Assumes nothing.
use mathlib.Core.Path.{ap}
use mathlib.Core.List.{List}
use Prim.Native.Nat.{ℕ}
use Rattle.bits.specs.Outcomes.{Determined}
use Rattle.bits.proofs.Determined.{same, same_told}
use Rattle.records.specs.Answers.{counted}
use Rattle.records.proofs.Answers.{counted_back, counted_known}
use Rattle.converters.proofs.narrow_from_wide.narrow_from_wide.Kinds as narrow_from_wide_kinds
use Rattle.converters.proofs.narrow_from_wide.narrow_from_wide.Reads as narrow_from_wide_reads
use Rattle.converters.proofs.wide_from_narrow.wide_from_narrow.Kinds as wide_from_narrow_kinds
use Rattle.converters.proofs.wide_from_narrow.wide_from_narrow.Reads as wide_from_narrow_reads

pub wide_from_narrow_determined : Determined 2 wide_from_narrow_kinds.ps wide_from_narrow_kinds.r wide_from_narrow_reads.Learnt
wide_from_narrow_determined κs a z z' ws ws' p q =
    (same_told counted counted_back counted_known p.0 q.0, ap (λ (b : List ℕ). (tt, (tt, (b, tt)))) (same p.1 q.1))

pub narrow_from_wide_determined : Determined 2 narrow_from_wide_kinds.ps narrow_from_wide_kinds.r narrow_from_wide_reads.Learnt
narrow_from_wide_determined κs a z z' ws ws' p q =
    (same_told counted counted_back counted_known p.0 q.0, ap (λ (b : List ℕ). (tt, (tt, (b, tt)))) (same p.1 q.1))

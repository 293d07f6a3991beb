-- Two outcomes that satisfy the contract of the call are equal.
-- Assumes nothing.
use mathlib.Core.Path.{ap}
use mathlib.Core.List.{List}
use Prim.Native.Nat.{ℕ}
use Rattle.bits.specs.Outcomes.{Determined}
use Rattle.bits.proofs.Determined.{same, same_told}
use Rattle.records.specs.Answers.{counted}
use Rattle.records.proofs.Answers.{counted_back, counted_known}
use Rattle.compactor.proofs.compact.compact.Kinds as compact_kinds
use Rattle.compactor.proofs.compact.compact.Reads as compact_reads

pub compact_determined : Determined 2 compact_kinds.ps compact_kinds.r compact_reads.Learnt
compact_determined κs a z z' ws ws' p q =
    (same_told counted counted_back counted_known p.0 q.0, ap (λ (b : List ℕ). (tt, (tt, (tt, (b, tt))))) (same p.1 q.1))

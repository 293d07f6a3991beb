-- Two outcomes that satisfy the contract of a public function of this crate are equal.
-- Assumes nothing.
use mathlib.Core.Path.{ap}
use mathlib.Core.List.{List}
use Prim.Native.Nat.{ℕ}
use Rattle.bits.specs.Outcomes.{Determined}
use Rattle.bits.proofs.Determined.{same, same_told}
use Rattle.records.specs.Answers.{counted}
use Rattle.records.proofs.Answers.{counted_back, counted_known}
use Rattle.outputs.proofs.list_of.Kinds as list_of_kinds
use Rattle.outputs.proofs.list_of.Reads as list_of_reads
use Rattle.outputs.proofs.shares_of.Kinds as shares_of_kinds
use Rattle.outputs.proofs.shares_of.Reads as shares_of_reads

pub list_of_determined : Determined 2 list_of_kinds.ps list_of_kinds.r list_of_reads.Learnt
list_of_determined κs a z z' ws ws' p q =
    (same_told counted counted_back counted_known p.0 q.0, ap (λ (b : List ℕ). (tt, (tt, (b, tt)))) (same p.1 q.1))

pub shares_of_determined : Determined 2 shares_of_kinds.ps shares_of_kinds.r shares_of_reads.Learnt
shares_of_determined κs a z z' ws ws' p q =
    (same_told counted counted_back counted_known p.0 q.0, ap (λ (b : List ℕ). (tt, (tt, (b, tt)))) (same p.1 q.1))

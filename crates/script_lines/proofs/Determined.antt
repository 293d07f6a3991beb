-- Two outcomes that satisfy the contract of a public function of this crate are equal.
-- Assumes nothing.
use mathlib.Core.Path.{ap}
use mathlib.Core.List.{List}
use Prim.Native.Nat.{ℕ}
use Rattle.bits.specs.Outcomes.{Determined}
use Rattle.bits.proofs.Determined.{same, same_told}
use Rattle.records.specs.Answers.{counted}
use Rattle.records.proofs.Answers.{counted_back, counted_known}
use Rattle.script_lines.proofs.read.read.Kinds as read_kinds
use Rattle.script_lines.proofs.read.read.Reads as read_reads
use Rattle.script_lines.proofs.print.print.Kinds as print_kinds
use Rattle.script_lines.proofs.print.print.Reads as print_reads

pub read_determined : Determined 2 read_kinds.ps read_kinds.r read_reads.Learnt
read_determined κs a z z' ws ws' p q =
    (same_told counted counted_back counted_known p.0 q.0, ap (λ (b : List ℕ). (tt, (b, tt))) (same p.1 q.1))

pub print_determined : Determined 2 print_kinds.ps print_kinds.r print_reads.Learnt
print_determined κs a z z' ws ws' p q = (same p.place q.place, ap (λ (b : List ℕ). (tt, (b, tt))) (same p.bytes q.bytes))

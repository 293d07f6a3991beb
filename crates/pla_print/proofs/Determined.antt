-- Two outcomes that satisfy the contract of the public function of this crate are equal.
-- Assumes nothing.
use mathlib.Core.Path.{ap}
use mathlib.Core.List.{List}
use Prim.Native.Nat.{ℕ}
use Rattle.bits.specs.Outcomes.{Determined}
use Rattle.bits.proofs.Determined.{same}
use Rattle.pla_print.proofs.print.Kinds as print_kinds
use Rattle.pla_print.proofs.print.Reads as print_reads

pub print_determined : Determined 2 print_kinds.ps print_kinds.r print_reads.Learnt
print_determined κs a z z' ws ws' p q = (same p.place q.place, ap (λ (b : List ℕ). (tt, (tt, (tt, (b, tt))))) (same p.bytes q.bytes))

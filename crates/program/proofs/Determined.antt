-- Two outcomes that satisfy the contract of a public function of this crate are equal.
-- Assumes nothing.
use mathlib.Core.Path.{refl}
use Rattle.bits.specs.Outcomes.{Determined}
use Rattle.bits.proofs.Determined.{same}
use Rattle.program.proofs.label.label_in.Kinds as label_in_kinds
use Rattle.program.proofs.label.label_in.Reads as label_in_reads
use Rattle.program.proofs.line.number_in.Kinds as number_in_kinds
use Rattle.program.proofs.line.number_in.Reads as number_in_reads
use Rattle.program.proofs.line.variables_in.Kinds as variables_in_kinds
use Rattle.program.proofs.line.variables_in.Reads as variables_in_reads

pub number_in_determined : Determined 1 number_in_kinds.ps number_in_kinds.r number_in_reads.Learnt
number_in_determined κs a z z' ws ws' p q = (same p q, refl)

pub variables_in_determined : Determined 1 variables_in_kinds.ps variables_in_kinds.r variables_in_reads.Learnt
variables_in_determined κs a z z' ws ws' p q = (same p q, refl)

pub label_in_determined : Determined 1 label_in_kinds.ps label_in_kinds.r label_in_reads.Learnt
label_in_determined κs a z z' ws ws' p q = (same p q, refl)

-- Two outcomes that satisfy the contract of a public function of this crate are equal.
-- Assumes nothing.
use mathlib.Core.Path.{refl}
use Rattle.bits.specs.Outcomes.{Determined}
use Rattle.bits.proofs.Determined.{same}
use Rattle.cksum.proofs.checksum.Kinds as checksum_kinds
use Rattle.cksum.proofs.checksum.Reads as checksum_reads

pub checksum_determined : Determined 1 checksum_kinds.ps checksum_kinds.r checksum_reads.Learnt
checksum_determined κs a z z' ws ws' p q = (same p q, refl)

-- Two outcomes that satisfy the contract of a public function of this crate are equal.
-- Assumes nothing.
use mathlib.Core.Path.{refl}
use Rattle.bits.specs.Outcomes.{Determined}
use Rattle.bits.proofs.Determined.{same}
use Rattle.orders.proofs.third.Kinds as third_kinds
use Rattle.orders.proofs.third.Reads as third_reads
use Rattle.orders.proofs.code_after.Kinds as code_after_kinds
use Rattle.orders.proofs.code_after.Reads as code_after_reads
use Rattle.orders.proofs.follow.Kinds as follow_kinds
use Rattle.orders.proofs.follow.Reads as follow_reads
use Rattle.orders.proofs.inverse.Kinds as inverse_kinds
use Rattle.orders.proofs.inverse.Reads as inverse_reads
use Rattle.orders.proofs.letter_order.Kinds as letter_order_kinds
use Rattle.orders.proofs.letter_order.Reads as letter_order_reads

pub third_determined : Determined 0 third_kinds.ps third_kinds.r third_reads.Learnt
third_determined κs a z z' ws ws' p q = (same p q, refl)

pub code_after_determined : Determined 0 code_after_kinds.ps code_after_kinds.r code_after_reads.Learnt
code_after_determined κs a z z' ws ws' p q = (same p q, refl)

pub follow_determined : Determined 0 follow_kinds.ps follow_kinds.r follow_reads.Learnt
follow_determined κs a z z' ws ws' p q = (same p q, refl)

pub inverse_determined : Determined 0 inverse_kinds.ps inverse_kinds.r inverse_reads.Learnt
inverse_determined κs a z z' ws ws' p q = (same p q, refl)

pub letter_order_determined : Determined 0 letter_order_kinds.ps letter_order_kinds.r letter_order_reads.Learnt
letter_order_determined κs a z z' ws ws' p q = (same p q, refl)

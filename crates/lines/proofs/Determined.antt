-- Two outcomes that satisfy the contract of a public function of this crate are equal.
-- Assumes nothing.
use mathlib.Core.Path.{refl}
use Rattle.bits.specs.Outcomes.{Determined}
use Rattle.bits.proofs.Determined.{same}
use Rattle.lines.proofs.line.line_end.Kinds as line_end_kinds
use Rattle.lines.proofs.line.line_end.Reads as line_end_reads
use Rattle.lines.proofs.line.content_end.Kinds as content_end_kinds
use Rattle.lines.proofs.line.content_end.Reads as content_end_reads
use Rattle.lines.proofs.word.past_word.Kinds as past_word_kinds
use Rattle.lines.proofs.word.past_word.Reads as past_word_reads
use Rattle.lines.proofs.word.is_blank_from.Kinds as is_blank_from_kinds
use Rattle.lines.proofs.word.is_blank_from.Reads as is_blank_from_reads
use Rattle.lines.proofs.word.same.Kinds as same_kinds
use Rattle.lines.proofs.word.same.Reads as same_Reads
use Rattle.lines.proofs.word.only_number.Kinds as only_number_kinds
use Rattle.lines.proofs.word.only_number.Reads as only_number_reads
use Rattle.lines.proofs.word.is_only_word.Kinds as is_only_word_kinds
use Rattle.lines.proofs.word.is_only_word.Reads as is_only_word_reads

pub line_end_determined : Determined 1 line_end_kinds.ps line_end_kinds.r line_end_reads.Learnt
line_end_determined κs a z z' ws ws' p q = (same p q, refl)

pub content_end_determined : Determined 1 content_end_kinds.ps content_end_kinds.r content_end_reads.Learnt
content_end_determined κs a z z' ws ws' p q = (same p.1 q.1, refl)

pub past_word_determined : Determined 1 past_word_kinds.ps past_word_kinds.r past_word_reads.Learnt
past_word_determined κs a z z' ws ws' p q = (same p q, refl)

pub is_blank_from_determined : Determined 1 is_blank_from_kinds.ps is_blank_from_kinds.r is_blank_from_reads.Learnt
is_blank_from_determined κs a z z' ws ws' p q = (same p q, refl)

pub same_determined : Determined 2 same_kinds.ps same_kinds.r same_Reads.Learnt
same_determined κs a z z' ws ws' p q = (same p q, refl)

pub only_number_determined : Determined 1 only_number_kinds.ps only_number_kinds.r only_number_reads.Learnt
only_number_determined κs a z z' ws ws' p q = (same p q, refl)

pub is_only_word_determined : Determined 2 is_only_word_kinds.ps is_only_word_kinds.r is_only_word_reads.Learnt
is_only_word_determined κs a z z' ws ws' p q = (same p q, refl)

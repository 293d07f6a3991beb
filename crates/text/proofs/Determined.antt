-- Two outcomes that satisfy the contract of a public function of this crate are equal.
-- Assumes nothing.
use mathlib.Core.Path.{◌≡◌, refl, ap}
use mathlib.Core.List.{List}
use Prim.Native.Nat.{ℕ}
use Rattle.bits.specs.Outcomes.{Determined, DeterminedBy}
use Rattle.bits.proofs.Determined.{same}
use Rattle.text.proofs.place.byte_at.Kinds as byte_at_kinds
use Rattle.text.proofs.place.byte_at.Reads as byte_at_reads
use Rattle.text.proofs.place.rest.Kinds as rest_kinds
use Rattle.text.proofs.place.rest.Reads as rest_reads
use Rattle.text.proofs.place.put_byte.Kinds as put_byte_kinds
use Rattle.text.proofs.place.put_byte.Reads as put_byte_reads
use Rattle.text.proofs.place.put_text.Kinds as put_text_kinds
use Rattle.text.proofs.place.put_text.Reads as put_text_reads
use Rattle.text.proofs.place.word_at.Kinds as word_at_kinds
use Rattle.text.proofs.place.word_at.Reads as word_at_reads
use Rattle.text.proofs.place.is_blank.Kinds as is_blank_kinds
use Rattle.text.proofs.place.is_blank.Reads as is_blank_reads
use Rattle.text.proofs.place.past_blanks.Kinds as past_blanks_kinds
use Rattle.text.proofs.place.past_blanks.Reads as past_blanks_reads
use Rattle.text.proofs.number.is_digit.Kinds as is_digit_kinds
use Rattle.text.proofs.number.is_digit.Reads as is_digit_reads
use Rattle.text.proofs.number.digit.Kinds as digit_kinds
use Rattle.text.proofs.number.digit.Reads as digit_reads
use Rattle.text.proofs.number.put_number.Kinds as put_number_kinds
use Rattle.text.proofs.number.put_number.Reads as put_number_reads
use Rattle.text.proofs.number.number_at.Kinds as number_at_kinds
use Rattle.text.proofs.number.number_at.Reads as number_at_reads
use Rattle.text.proofs.cubes.code_of.Kinds as code_of_kinds
use Rattle.text.proofs.cubes.code_of.Reads as code_of_reads
use Rattle.text.proofs.cubes.put_cube.Kinds as put_cube_kinds
use Rattle.text.proofs.cubes.put_cube.Reads as put_cube_reads
use Rattle.text.proofs.cubes.cube_at.Kinds as cube_at_kinds
use Rattle.text.proofs.cubes.cube_at.Reads as cube_at_reads
use Rattle.text.proofs.step.put_field.Kinds as put_field_kinds
use Rattle.text.proofs.step.put_field.Reads as put_field_reads
use Rattle.text.proofs.step.put_step.Kinds as put_step_kinds
use Rattle.text.proofs.step.put_step.Reads as put_step_reads
use Rattle.text.proofs.step.gap_at.Kinds as gap_at_kinds
use Rattle.text.proofs.step.gap_at.Reads as gap_at_reads
use Rattle.text.proofs.step.field_at.Kinds as field_at_kinds
use Rattle.text.proofs.step.field_at.Reads as field_at_reads
use Rattle.text.proofs.step.step_at.Kinds as step_at_kinds
use Rattle.text.proofs.step.step_at.Reads as step_at_reads

pub byte_at_determined : Determined 1 byte_at_kinds.ps byte_at_kinds.r byte_at_reads.Learnt
byte_at_determined κs a z z' ws ws' p q = (same p q, refl)

-- the bytes of the part that is handed back
pub rest_determined : DeterminedBy 1 rest_kinds.ps rest_kinds.r (λ κs z. z.now) rest_reads.Learnt
rest_determined κs a z z' ws ws' p q = (same p q, refl)

pub put_byte_determined : Determined 1 put_byte_kinds.ps put_byte_kinds.r put_byte_reads.Learnt
put_byte_determined κs a z z' ws ws' p q = (same p.place q.place, ap (λ (b : List ℕ). (b, (tt, (tt, tt)))) (same p.bytes q.bytes))

pub put_text_determined : Determined 2 put_text_kinds.ps put_text_kinds.r put_text_reads.Learnt
put_text_determined κs a z z' ws ws' p q = (same p.place q.place, ap (λ (b : List ℕ). (b, (tt, (tt, tt)))) (same p.bytes q.bytes))

pub word_at_determined : Determined 2 word_at_kinds.ps word_at_kinds.r word_at_reads.Learnt
word_at_determined κs a z z' ws ws' p q = (same p q, refl)

pub is_blank_determined : Determined 0 is_blank_kinds.ps is_blank_kinds.r is_blank_reads.Learnt
is_blank_determined κs a z z' ws ws' p q = (same p q, refl)

pub past_blanks_determined : Determined 1 past_blanks_kinds.ps past_blanks_kinds.r past_blanks_reads.Learnt
past_blanks_determined κs a z z' ws ws' p q = (same p q, refl)

pub is_digit_determined : Determined 0 is_digit_kinds.ps is_digit_kinds.r is_digit_reads.Learnt
is_digit_determined κs a z z' ws ws' p q = (same p q, refl)

pub digit_determined : Determined 0 digit_kinds.ps digit_kinds.r digit_reads.Learnt
digit_determined κs a z z' ws ws' p q = (same p q, refl)

pub put_number_determined : Determined 1 put_number_kinds.ps put_number_kinds.r put_number_reads.Learnt
put_number_determined κs a z z' ws ws' p q = (same p.place q.place, ap (λ (b : List ℕ). (b, (tt, (tt, tt)))) (same p.bytes q.bytes))

pub number_at_determined : Determined 1 number_at_kinds.ps number_at_kinds.r number_at_reads.Learnt
number_at_determined κs a z z' ws ws' p q = (same p q, refl)

pub code_of_determined : Determined 0 code_of_kinds.ps code_of_kinds.r code_of_reads.Learnt
code_of_determined κs a z z' ws ws' p q = (same p q, refl)

pub put_cube_determined : Determined 1 put_cube_kinds.ps put_cube_kinds.r put_cube_reads.Learnt
put_cube_determined κs a z z' ws ws' p q = (same p.place q.place, ap (λ (b : List ℕ). (b, (tt, (tt, (tt, tt))))) (same p.bytes q.bytes))

pub cube_at_determined : Determined 1 cube_at_kinds.ps cube_at_kinds.r cube_at_reads.Learnt
cube_at_determined κs a z z' ws ws' p q = (same p q, refl)

pub put_field_determined : Determined 2 put_field_kinds.ps put_field_kinds.r put_field_reads.Learnt
put_field_determined κs a z z' ws ws' p q = (same p.place q.place, ap (λ (b : List ℕ). (b, (tt, (tt, (tt, (tt, tt)))))) (same p.bytes q.bytes))

pub put_step_determined : Determined 1 put_step_kinds.ps put_step_kinds.r put_step_reads.Learnt
put_step_determined κs a z z' ws ws' p q = (same p.place q.place, ap (λ (b : List ℕ). (b, (tt, (tt, tt)))) (same p.bytes q.bytes))

pub gap_at_determined : Determined 1 gap_at_kinds.ps gap_at_kinds.r gap_at_reads.Learnt
gap_at_determined κs a z z' ws ws' p q = (same p q, refl)

pub field_at_determined : Determined 2 field_at_kinds.ps field_at_kinds.r field_at_reads.Learnt
field_at_determined κs a z z' ws ws' p q = (same p q, refl)

pub step_at_determined : Determined 1 step_at_kinds.ps step_at_kinds.r step_at_reads.Learnt
step_at_determined κs a z z' ws ws' p q = (same p q, refl)

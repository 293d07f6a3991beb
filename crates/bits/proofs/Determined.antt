-- One lemma for every uniqueness theorem: two outcomes that a contract sets equal to the same thing are equal. And the theorems of this crate.
-- Assumes nothing.
use mathlib.Core.Path.{◌≡◌, refl, sym, ap, ◌∙◌}
use mathlib.Core.List.{List}
use Prim.Native.Nat.{ℕ}
use Rattle.bits.specs.Outcomes.{Determined}
use Rattle.bits.specs.Packed.{alone}
use Rattle.bits.specs.declared.packed.Packed.{Packed}
use Rattle.bits.proofs.bit.Kinds as bit_kinds
use Rattle.bits.proofs.bit.Reads as bit_reads
use Rattle.bits.proofs.packed.Packed.of.Kinds as packed_of_kinds
use Rattle.bits.proofs.packed.Packed.of.Reads as packed_of_reads
use Rattle.bits.proofs.packed.Packed.lowered.Kinds as packed_lowered_kinds
use Rattle.bits.proofs.packed.Packed.lowered.Reads as packed_lowered_reads
use Rattle.bits.proofs.packed.Packed.raised.Kinds as packed_raised_kinds
use Rattle.bits.proofs.packed.Packed.raised.Reads as packed_raised_reads
use Rattle.bits.proofs.packed.Packed.ones.Kinds as packed_ones_kinds
use Rattle.bits.proofs.packed.Packed.ones.Reads as packed_ones_reads
use Rattle.bits.proofs.packed.Packed.literal.Kinds as packed_literal_kinds
use Rattle.bits.proofs.packed.Packed.literal.Reads as packed_literal_reads
use Rattle.bits.proofs.packed.Packed.both.Kinds as packed_both_kinds
use Rattle.bits.proofs.packed.Packed.both.Reads as packed_both_reads
use Rattle.bits.proofs.packed.Packed.sum.Kinds as packed_sum_kinds
use Rattle.bits.proofs.packed.Packed.sum.Reads as packed_sum_reads
use Rattle.bits.proofs.packed.Packed.put.Kinds as packed_put_kinds
use Rattle.bits.proofs.packed.Packed.put.Reads as packed_put_reads
use Rattle.bits.proofs.packed.Packed.alone.Kinds as packed_alone_kinds
use Rattle.bits.proofs.packed.Packed.alone.Reads as packed_alone_reads
use Rattle.bits.proofs.packing.pack_word.Kinds as pack_word_kinds
use Rattle.bits.proofs.packing.pack_word.Reads as pack_word_reads
use Rattle.bits.proofs.packing.eight_bits.Kinds as eight_bits_kinds
use Rattle.bits.proofs.packing.eight_bits.Reads as eight_bits_reads
use Rattle.bits.proofs.word.lower_word.Kinds as lower_word_kinds
use Rattle.bits.proofs.word.lower_word.Reads as lower_word_reads
use Rattle.bits.proofs.word.raise_word.Kinds as raise_word_kinds
use Rattle.bits.proofs.word.raise_word.Reads as raise_word_reads
use Rattle.bits.proofs.packing.put_bits.Kinds as put_bits_kinds
use Rattle.bits.proofs.packing.put_bits.Reads as put_bits_reads
use Rattle.bits.proofs.passes.U64Bits.of.Kinds as word_of_kinds
use Rattle.bits.proofs.passes.U64Bits.of.Reads as word_of_reads
use Rattle.bits.proofs.passes.U64Bits.put.Kinds as word_put_kinds
use Rattle.bits.proofs.passes.U64Bits.put.Reads as word_put_reads
use Rattle.bits.proofs.passes.U64Bits.lowered.Kinds as word_lowered_kinds
use Rattle.bits.proofs.passes.U64Bits.lowered.Reads as word_lowered_reads
use Rattle.bits.proofs.passes.U64Bits.raised.Kinds as word_raised_kinds
use Rattle.bits.proofs.passes.U64Bits.raised.Reads as word_raised_reads
use Rattle.bits.proofs.passes.U64Bits.sum.Kinds as word_sum_kinds
use Rattle.bits.proofs.passes.U64Bits.sum.Reads as word_sum_reads
use Rattle.bits.proofs.passes.U64Bits.words.Kinds as word_words_kinds
use Rattle.bits.proofs.passes.U64Bits.words.Reads as word_words_reads
use Rattle.bits.proofs.passes.PackedBits.of.Kinds as four_words_of_kinds
use Rattle.bits.proofs.passes.PackedBits.of.Reads as four_words_of_reads
use Rattle.bits.proofs.passes.PackedBits.put.Kinds as four_words_put_kinds
use Rattle.bits.proofs.passes.PackedBits.put.Reads as four_words_put_reads
use Rattle.bits.proofs.passes.PackedBits.lowered.Kinds as four_words_lowered_kinds
use Rattle.bits.proofs.passes.PackedBits.lowered.Reads as four_words_lowered_reads
use Rattle.bits.proofs.passes.PackedBits.raised.Kinds as four_words_raised_kinds
use Rattle.bits.proofs.passes.PackedBits.raised.Reads as four_words_raised_reads
use Rattle.bits.proofs.passes.PackedBits.sum.Kinds as four_words_sum_kinds
use Rattle.bits.proofs.passes.PackedBits.sum.Reads as four_words_sum_reads
use Rattle.bits.proofs.passes.PackedBits.words.Kinds as four_words_words_kinds
use Rattle.bits.proofs.passes.PackedBits.words.Reads as four_words_words_reads

-- equal to the same
pub same {ℓ} : {A : Type ℓ} {x y z : A} → x ≡ z → y ≡ z → x ≡ y
same p q = p ∙ sym q

-- told the same, by a definition from which the answer can be read back
pub same_told : {A B : Type 0} (told : A → B) (back : B → A) → ((a : A) → back (told a) ≡ a) → {x y : A} {z : B} → told x ≡ z → told y ≡ z → x ≡ y
same_told told back known {x} {y} p q = sym (known x) ∙ ap back (same p q) ∙ known y

pub bit_determined : Determined 0 bit_kinds.ps bit_kinds.r bit_reads.Learnt
bit_determined κs a z z' ws ws' p q = (same p q, refl)

pub packed_of_determined : Determined 1 packed_of_kinds.ps packed_of_kinds.r packed_of_reads.Learnt
packed_of_determined κs a z z' ws ws' p q = (same p q, refl)

pub packed_put_determined : Determined 1 packed_put_kinds.ps packed_put_kinds.r packed_put_reads.Learnt
packed_put_determined κs a z z' ws ws' p q = (refl, ap (λ (b : List ℕ). (tt, (b, tt))) (same p q))

pub packed_lowered_determined : Determined 0 packed_lowered_kinds.ps packed_lowered_kinds.r packed_lowered_reads.Learnt
packed_lowered_determined κs a z z' ws ws' p q = (same p q, refl)

pub packed_raised_determined : Determined 0 packed_raised_kinds.ps packed_raised_kinds.r packed_raised_reads.Learnt
packed_raised_determined κs a z z' ws ws' p q = (same p q, refl)

pub packed_ones_determined : Determined 0 packed_ones_kinds.ps packed_ones_kinds.r packed_ones_reads.Learnt
packed_ones_determined κs a z z' ws ws' p q = (same p q, refl)

pub packed_literal_determined : Determined 0 packed_literal_kinds.ps packed_literal_kinds.r packed_literal_reads.Learnt
packed_literal_determined κs a z z' ws ws' p q = (same p q, refl)

pub packed_both_determined : Determined 0 packed_both_kinds.ps packed_both_kinds.r packed_both_reads.Learnt
packed_both_determined κs a z z' ws ws' p q = (same p q, refl)

pub packed_sum_determined : Determined 0 packed_sum_kinds.ps packed_sum_kinds.r packed_sum_reads.Learnt
packed_sum_determined κs a z z' ws ws' p q = (same p q, refl)

pub packed_alone_determined : Determined 0 packed_alone_kinds.ps packed_alone_kinds.r packed_alone_reads.Learnt
packed_alone_determined κs a z z' ws ws' p q = (same p q, refl)

pub pack_word_determined : Determined 1 pack_word_kinds.ps pack_word_kinds.r pack_word_reads.Learnt
pack_word_determined κs a z z' ws ws' p q = (same p q, refl)

pub eight_bits_determined : Determined 1 eight_bits_kinds.ps eight_bits_kinds.r eight_bits_reads.Learnt
eight_bits_determined κs a z z' ws ws' p q = (same p q, refl)

pub lower_word_determined : Determined 0 lower_word_kinds.ps lower_word_kinds.r lower_word_reads.Learnt
lower_word_determined κs a z z' ws ws' p q = (same p q, refl)

pub raise_word_determined : Determined 0 raise_word_kinds.ps raise_word_kinds.r raise_word_reads.Learnt
raise_word_determined κs a z z' ws ws' p q = (same p q, refl)

pub put_bits_determined : Determined 1 put_bits_kinds.ps put_bits_kinds.r put_bits_reads.Learnt
put_bits_determined κs a z z' ws ws' p q = (refl, ap (λ (b : List ℕ). (tt, (b, tt))) (same p q))

-- ---- the bits of a vector, in one word

-- the word, read back
word_back : Packed → ℕ
word_back w = w.a

word_known : (x : ℕ) → word_back (alone x) ≡ x
unfolding word_back
word_known x = refl

pub word_of_determined : Determined 1 word_of_kinds.ps word_of_kinds.r word_of_reads.Learnt
word_of_determined κs a z z' ws ws' p q = (same_told alone word_back word_known p q, refl)

pub word_put_determined : Determined 1 word_put_kinds.ps word_put_kinds.r word_put_reads.Learnt
word_put_determined κs a z z' ws ws' p q = (refl, ap (λ (b : List ℕ). (tt, (b, tt))) (same p q))

pub word_lowered_determined : Determined 0 word_lowered_kinds.ps word_lowered_kinds.r word_lowered_reads.Learnt
word_lowered_determined κs a z z' ws ws' p q = (same_told alone word_back word_known p q, refl)

pub word_raised_determined : Determined 0 word_raised_kinds.ps word_raised_kinds.r word_raised_reads.Learnt
word_raised_determined κs a z z' ws ws' p q = (same_told alone word_back word_known p q, refl)

pub word_sum_determined : Determined 0 word_sum_kinds.ps word_sum_kinds.r word_sum_reads.Learnt
word_sum_determined κs a z z' ws ws' p q = (same_told alone word_back word_known p q, refl)

pub word_words_determined : Determined 0 word_words_kinds.ps word_words_kinds.r word_words_reads.Learnt
word_words_determined κs a z z' ws ws' p q = (same p q, refl)

-- ---- the same in four words

pub four_words_of_determined : Determined 1 four_words_of_kinds.ps four_words_of_kinds.r four_words_of_reads.Learnt
four_words_of_determined κs a z z' ws ws' p q = (same p q, refl)

pub four_words_put_determined : Determined 1 four_words_put_kinds.ps four_words_put_kinds.r four_words_put_reads.Learnt
four_words_put_determined κs a z z' ws ws' p q = (refl, ap (λ (b : List ℕ). (tt, (b, tt))) (same p q))

pub four_words_lowered_determined : Determined 0 four_words_lowered_kinds.ps four_words_lowered_kinds.r four_words_lowered_reads.Learnt
four_words_lowered_determined κs a z z' ws ws' p q = (same p q, refl)

pub four_words_raised_determined : Determined 0 four_words_raised_kinds.ps four_words_raised_kinds.r four_words_raised_reads.Learnt
four_words_raised_determined κs a z z' ws ws' p q = (same p q, refl)

pub four_words_sum_determined : Determined 0 four_words_sum_kinds.ps four_words_sum_kinds.r four_words_sum_reads.Learnt
four_words_sum_determined κs a z z' ws ws' p q = (same p q, refl)

pub four_words_words_determined : Determined 0 four_words_words_kinds.ps four_words_words_kinds.r four_words_words_reads.Learnt
four_words_words_determined κs a z z' ws ws' p q = (same p q, refl)

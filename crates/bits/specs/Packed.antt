-- Inside: 256 bits in four words, what the inner functions of `cube` and `polarity` compute with. No public call of document 01 is stated over it.
-- Document 01, "Fixed polarity": "A truth vector is 2^n bytes, each 0 or 1, indexed by assignment." With n at most 8, bit t is the byte at t, and t is a set of variables.
-- Assumes nothing.
use Rattle.std.specs.Prelude.{ℕ, zero, suc, ◌+◌, ◌-◌, ◌*◌, ◌/◌, ◌%◌, ◌^◌, min, Bool, not, cond, List, ◌++◌, eqb, ltb, length, get_or, drop}
use Rattle.std.specs.Int.Bits.{bit_and, bit_xor}
use Rattle.bits.specs.Bits.{bit}
use Rattle.bits.specs.Below.{sum_below, list_below}
use Rattle.bits.specs.Sums.{one_if}
use Rattle.bits.specs.declared.packed.Packed.{Packed}

-- word i, the lowest first; the last for every i from 3 on
abbrev pub word_at : Packed → ℕ → ℕ
word_at w zero = w.a
word_at w (suc zero) = w.b
word_at w (suc (suc zero)) = w.c
word_at w (suc (suc (suc i))) = w.d

-- bit t
unfoldable pub bit_at : Packed → ℕ → ℕ
bit_at w t = bit (word_at w (t / 64)) (t % 64)

-- the first word, and no bit in the others: what up to six variables need
abbrev pub alone : ℕ → Packed
alone x = record { a = x; b = 0; c = 0; d = 0 }

-- ---- bytes into bits, and back

-- byte i of x
abbrev pub byte_of : ℕ → ℕ → ℕ
byte_of x i = x / 2 ^ (8 * i) % 256

-- bytes as one number, the first lowest
unfoldable pub number_of : List ℕ → ℕ
number_of l = sum_below (length l) (λ i. get_or l i 0 * 2 ^ (8 * i))

-- the first m bits of x, a byte each, as one number
unfoldable pub spread_bits : ℕ → ℕ → ℕ
spread_bits m x = sum_below m (λ i. bit x i * 2 ^ (8 * i))

-- the lowest bit of each of the 64 bytes from `from` on, 0 past the end
unfoldable pub word_from : List ℕ → ℕ → ℕ
word_from l from = sum_below 64 (λ i. get_or l (from + i) 0 % 2 * 2 ^ i)

-- the lowest bit of each of the first 256 bytes
unfoldable pub packed : List ℕ → Packed
packed l = record { a = word_from l 0; b = word_from l 64; c = word_from l 128; d = word_from l 192 }

-- the bits to the front of a buffer, a byte each, as many as there are places; every other byte as it was
unfoldable pub put_bits : Packed → List ℕ → List ℕ
put_bits w b = list_below (min 256 (length b)) (bit_at w) ++ drop 256 b

-- ---- a pass: of each two entries whose indices differ in variable k alone, one is added to the other, modulo 2

-- the one with the variable is added to the one without it
unfoldable pub plus_upper : ℕ → (ℕ → ℕ) → ℕ → ℕ
plus_upper k f t = cond (eqb (bit t k) 0) (bit_xor (f t) (f (t + 2 ^ k))) (f t)

-- the one without the variable is added to the one with it
unfoldable pub plus_lower : ℕ → (ℕ → ℕ) → ℕ → ℕ
plus_lower k f t = cond (eqb (bit t k) 1) (bit_xor (f t) (f (t - 2 ^ k))) (f t)

-- the word of the bits whose index is without variable k
unfoldable pub mask_of : ℕ → ℕ
mask_of k = (2 ^ 64 - 1) / (2 ^ 2 ^ k + 1)

-- `plus_upper` on the bits of one word, for k below 6
unfoldable pub lowered_word : ℕ → ℕ → ℕ
lowered_word k x = bit_xor x (bit_and (x / 2 ^ 2 ^ k) (mask_of k))

-- `plus_lower` on the bits of one word, for k below 6
unfoldable pub raised_word : ℕ → ℕ → ℕ
raised_word k x = bit_xor x ((bit_and x (mask_of k) * 2 ^ 2 ^ k) % 2 ^ 64)

-- each word by itself
abbrev pub each_word : (ℕ → ℕ) → Packed → Packed
each_word f w = record { a = f w.a; b = f w.b; c = f w.c; d = f w.d }

-- `plus_upper` on all bits; variable 6 tells the words of a pair apart, variable 7 (and every k above, which no index has) the pairs
unfoldable pub lowered : ℕ → Packed → Packed
lowered k w =
    cond (ltb k 6) (each_word (lowered_word k) w)
    (cond (eqb k 6) (record { a = bit_xor w.a w.b; b = w.b; c = bit_xor w.c w.d; d = w.d })
    (record { a = bit_xor w.a w.c; b = bit_xor w.b w.d; c = w.c; d = w.d }))

-- `plus_lower` on all bits, likewise
unfoldable pub raised : ℕ → Packed → Packed
raised k w =
    cond (ltb k 6) (each_word (raised_word k) w)
    (cond (eqb k 6) (record { a = w.a; b = bit_xor w.b w.a; c = w.c; d = bit_xor w.d w.c })
    (record { a = w.a; b = w.b; c = bit_xor w.c w.a; d = bit_xor w.d w.b }))

-- ---- bits met and added

-- the bits that are set in both
unfoldable pub both : Packed → Packed → Packed
both w v = record { a = bit_and w.a v.a; b = bit_and w.b v.b; c = bit_and w.c v.c; d = bit_and w.d v.d }

-- the sums of the bits, modulo 2
unfoldable pub summed : Packed → Packed → Packed
summed w v = record { a = bit_xor w.a v.a; b = bit_xor w.b v.b; c = bit_xor w.c v.c; d = bit_xor w.d v.d }

-- ---- a literal: document 01, "Cubes and lists": "0 for the complemented literal, 1 for the plain one, 2 for absent"

-- the bits whose index is without variable k, as `lowered` takes k
unfoldable pub without_bits : ℕ → Packed
without_bits k =
    cond (ltb k 6) (record { a = mask_of k; b = mask_of k; c = mask_of k; d = mask_of k })
    (cond (eqb k 6) (record { a = 2 ^ 64 - 1; b = 0; c = 2 ^ 64 - 1; d = 0 }) (record { a = 2 ^ 64 - 1; b = 2 ^ 64 - 1; c = 0; d = 0 }))

-- every bit of a word, or none
abbrev pub full_of : Bool → ℕ
full_of t = one_if t * (2 ^ 64 - 1)

-- the bits of x where m has one, and those of y where it has none
abbrev pub mixed : ℕ → ℕ → ℕ → ℕ
mixed m x y = bit_xor y (bit_and m (bit_xor x y))

-- the bits at whose index the literal with code x at variable k is true
unfoldable pub literal_bits : ℕ → ℕ → Packed
literal_bits x k = each_word (λ m. mixed m (full_of (not (eqb x 1))) (full_of (not (eqb x 0)))) (without_bits k)

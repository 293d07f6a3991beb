-- The checksum of a file as POSIX's `cksum` prints it. POSIX.1, "cksum".
-- Assumes nothing.
use Rattle.std.specs.Prelude.{cond, List, [], ◌∷◌, ℕ, zero, suc, ◌*◌, ◌/◌, ◌%◌, leb, length}
use Rattle.std.specs.Int.Bits.{bit_xor}

-- how many remainders there are: 2^32
abbrev pub remainders : ℕ
remainders = 4294967296

-- the generating polynomial x^32 + x^26 + x^23 + x^22 + x^16 + x^12 + x^11 + x^10 + x^8 + x^7 + x^5 + x^4 + x^2 + x + 1, without x^32: 0x04C11DB7
abbrev pub polynomial : ℕ
polynomial = 79764919

-- a remainder with one more bit below it, divided by the polynomial modulo 2: where its highest bit (2^31) goes over the top, the polynomial is taken off
unfoldable pub crc_turn : ℕ → ℕ
crc_turn c = cond (leb 2147483648 c) (bit_xor ((c * 2) % remainders) polynomial) (c * 2)

-- so many times
unfoldable pub crc_turns : ℕ → ℕ → ℕ
crc_turns zero c = c
crc_turns (suc k) c = crc_turns k (crc_turn c)

-- the remainder after one more byte, its highest bit first: it stands in the upper 8 of the 32 bits, 24 up (2^24)
unfoldable pub crc_byte : ℕ → ℕ → ℕ
crc_byte crc b = crc_turns 8 (bit_xor crc (b * 16777216))

-- after more bytes
unfoldable pub crc_bytes : ℕ → List ℕ → ℕ
crc_bytes crc [] = crc
crc_bytes crc (b ∷ s) = crc_bytes (crc_byte crc b) s

-- the length as bytes, the low byte first, as few as hold it, which is none for 0; each turn of `turns` takes one off, and as many turns as the number are enough
unfoldable pub bytes_by : ℕ → ℕ → List ℕ
bytes_by zero n = []
bytes_by (suc turns) zero = []
bytes_by (suc turns) (suc n) = suc n % 256 ∷ bytes_by turns (suc n / 256)

abbrev pub length_bytes : ℕ → List ℕ
length_bytes n = bytes_by n n

-- the remainder of the file's bytes and then those of its length, with all 32 bits complemented (2^32 - 1)
unfoldable pub checksum : List ℕ → ℕ
checksum s = bit_xor (crc_bytes (crc_bytes 0 s) (length_bytes (length s))) 4294967295

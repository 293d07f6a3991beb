-- Numbers of several bytes, over how many bytes there are. Document 01, "Cubes and lists": "Numbers of several bytes are little-endian throughout."
-- Assumes nothing.
use Rattle.std.specs.Prelude.{ℕ, zero, suc, ◌+◌, ◌*◌, ◌/◌, ◌%◌, List, [], ◌∷◌, get_or}

-- how many numbers a byte holds
abbrev pub byte_size : ℕ
byte_size = 256

-- the k bytes of a number, the low one first; the last is not cut to 8 bits, so that the bytes are those of one number alone
unfoldable pub bytes_of : ℕ → ℕ → List ℕ
bytes_of zero x = []
bytes_of (suc zero) x = x ∷ []
bytes_of (suc (suc k)) x = x % byte_size ∷ bytes_of (suc k) (x / byte_size)

-- the number of the k bytes from byte p on; a byte past the end counts as 0
unfoldable pub number_at : ℕ → List ℕ → ℕ → ℕ
number_at zero b p = 0
number_at (suc k) b p = get_or b p 0 + byte_size * number_at k b (suc p)

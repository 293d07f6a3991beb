-- Numbers as sets of variables: bit k of a number is variable k. Document 01, "Cubes and lists": "An assignment is a number whose bit k is variable k."
-- Assumes nothing.
use Rattle.std.specs.Prelude.{ℕ, ◌+◌, ◌-◌, ◌*◌, ◌/◌, ◌%◌, ◌^◌, Bool, eqb}
use Rattle.std.specs.Int.Bits.{bit_and}

-- bit k of x, 0 or 1
abbrev pub bit : ℕ → ℕ → ℕ
bit x k = x / 2 ^ k % 2

-- x with bit k made b
unfoldable pub with_bit : ℕ → ℕ → ℕ → ℕ
with_bit x k b = x - bit x k * 2 ^ k + b * 2 ^ k

-- every bit of t is one of s
abbrev pub within : ℕ → ℕ → Bool
within t s = eqb (bit_and t s) t

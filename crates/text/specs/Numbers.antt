-- Numbers in decimal.
-- Assumes nothing.
use Rattle.std.specs.Prelude.{Bool, cond, ◌&&◌, List, [], ◌∷◌, ◌++◌, ℕ, zero, suc, ◌+◌, ◌/◌, ◌%◌, ltb, leb, Option, Some, None, ◌*◌}

-- a byte that is a digit's character
abbrev pub is_digit : ℕ → Bool
is_digit b = leb 48 b && leb b 57

-- the digits of a number, the most significant first; each turn of `turns` takes the last one off, and as many turns as the number are enough
unfoldable pub decimal_by : ℕ → ℕ → List ℕ
decimal_by zero x = (48 + x % 10) ∷ []
decimal_by (suc turns) x = cond (ltb x 10) ((48 + x) ∷ []) (decimal_by turns (x / 10) ++ ((48 + x % 10) ∷ []))

abbrev pub decimal : ℕ → List ℕ
decimal x = decimal_by x x

-- x followed by the digit d, where that is at most `most`
abbrev pub with_digit : ℕ → ℕ → ℕ → Option ℕ
with_digit most x d = cond (leb (x * 10 + d) most) (Some (x * 10 + d)) None

-- The number of a line of digits, and the line that gives the number of variables. Document 01, "The program", with the limit of document 02, Seven.
-- Assumes nothing.
use Rattle.std.specs.Prelude.{Option, Some, None, Bool, true, cond, ◌&&◌, List, [], ◌∷◌, ℕ, ◌+◌, ◌*◌, ◌-◌, leb, length}
use Rattle.cube.specs.Lists.{most_variables}
use Rattle.text.specs.Numbers.{is_digit}

-- "digits": every byte is a digit's character
unfoldable pub all_digits : List ℕ → Bool
all_digits [] = true
all_digits (b ∷ l) = is_digit b && all_digits l

-- the number of x and the digits after it
unfoldable pub decimal_after : ℕ → List ℕ → ℕ
decimal_after x [] = x
decimal_after x (b ∷ l) = decimal_after (x * 10 + (b - 48)) l

-- "digits for a number": the number that they stand for, the first the most significant
abbrev pub decimal_of : List ℕ → ℕ
decimal_of l = decimal_after 0 l

-- a line of at least one and at most `digits` bytes, each a digit, for a number of at most `most`: that number, or none
unfoldable pub line_number : ℕ → ℕ → List ℕ → Option ℕ
line_number digits most l =
    cond (leb 1 (length l) && (leb (length l) digits && (all_digits l && leb (decimal_of l) most))) (Some (decimal_of l)) None

-- "one line of one or two digits", "digits for a number from 0 to 32", as "Demand 3 and the program's line read 32 for 16" (document 02, Seven): the
-- line's bytes, without its newline
unfoldable pub variables_line : List ℕ → Option ℕ
variables_line l = line_number 2 most_variables l

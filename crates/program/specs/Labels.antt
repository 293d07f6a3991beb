-- The line that gives the label. Document 02, One: "a program prints them, one a line, from n and the label (decimal, else 6) on two input lines".
-- Assumes nothing.
use Rattle.std.specs.Prelude.{Option, Some, None, List, ℕ}
use Rattle.program.specs.Lines.{line_number}

-- "else 6": an assignment that has a bit at or above n for every n
abbrev pub no_label : ℕ
no_label = 18446744073709551615

-- "decimal": a line of one to ten digits, as many as the greatest label of 32 variables has; ten digits never stand for as much as `no_label`
abbrev pub label_number : List ℕ → Option ℕ
label_number l = line_number 10 no_label l

-- the label of what a line says
abbrev pub label_of : Option ℕ → ℕ
label_of (Some a) = a
label_of None = no_label

-- "the label (decimal, else 6)": the line's bytes, without its newline
unfoldable pub label_line : List ℕ → ℕ
label_line l = label_of (label_number l)

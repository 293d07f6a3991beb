-- Literal codes by themselves: the third of two, the halves of a split, and the exchange of an L step. Document 01, "The steps of a script".
-- Assumes nothing.
use Rattle.std.specs.Prelude.{ℕ, Bool, not, cond, ◌&&◌, eqb, ltb}

-- z is neither x nor y
abbrev pub neither : ℕ → ℕ → ℕ → Bool
neither z x y = not (eqb z x) && not (eqb z y)

-- "The third of two different codes is the remaining one of 0, 1, 2"
unfoldable pub third : ℕ → ℕ → ℕ
third x y = cond (neither 0 x y) 0 (cond (neither 1 x y) 1 2)

-- how many codes there are
abbrev pub code_count : ℕ
code_count = 3

-- the same where they are two different codes, else 0
unfoldable pub third_of : ℕ → ℕ → ℕ
third_of x y = cond (ltb x code_count && (ltb y code_count && not (eqb y x))) (third x y) 0

-- "of the two codes that i does not have at v, the lower stays at i, the higher is appended"
abbrev pub lower : ℕ → ℕ
lower x = cond (eqb x 0) 1 0

abbrev pub higher : ℕ → ℕ
higher x = cond (eqb x 2) 1 2

-- the code b and 2 exchanged (000, definition 4.1)
abbrev pub exchange : ℕ → ℕ → ℕ
exchange b x = cond (eqb x b) 2 (cond (eqb x 2) b x)

-- A text laid into a lent buffer from a place on: what has no room isn't written, and after it there is no place.
-- Assumes nothing.
use Rattle.std.specs.Prelude.{◌≡◌, cond, List, [], ◌∷◌, ℕ, ◌+◌, ltb, length, set}

-- no place: the greatest number of 64 bits, which no buffer reaches
abbrev pub no_place : ℕ
no_place = 18446744073709551615

-- the place after a byte at `at`, in a buffer of so many bytes
abbrev pub next_place : ℕ → ℕ → ℕ
next_place room at = cond (ltb at room) (at + 1) no_place

-- the place after a text
unfoldable pub ends : ℕ → ℕ → List ℕ → ℕ
ends room at [] = at
ends room at (x ∷ s) = ends room (next_place room at) s

-- the buffer after it, byte by byte
unfoldable pub laid : List ℕ → ℕ → List ℕ → List ℕ
laid b at [] = b
laid b at (x ∷ s) = laid (set b at x) (next_place (length b) at) s

-- what each printer does: it answers the next place, and leaves the buffer with the text in it
pub record Laid (b : List ℕ) (at : ℕ) (s : List ℕ) (next : ℕ) (b' : List ℕ) : Type 0 where
  pub place : next ≡ ends (length b) at s
  pub bytes : b' ≡ laid b at s

-- A text as lines: docs/TEXTS.md, "Lines".
-- Assumes nothing.
use Rattle.std.specs.Prelude.{cond, List, [], ◌∷◌, ℕ, eqb, take}
use Rattle.lines.specs.Bytes.{index_of}

abbrev pub newline : ℕ
newline = 10

-- the sign that begins a comment
abbrev pub hash : ℕ
hash = 35

-- a byte before the first of these lines; where there is none, a line of its own
abbrev pub begun : ℕ → List (List ℕ) → List (List ℕ)
begun b [] = (b ∷ []) ∷ []
begun b (l ∷ rest) = (b ∷ l) ∷ rest

-- the lines of a text, without their newlines: after the last newline there is a line only where there is a byte
unfoldable pub lines : List ℕ → List (List ℕ)
lines [] = []
lines (b ∷ t) = cond (eqb b newline) ([] ∷ lines t) (begun b (lines t))

-- what a line says: what stands before its comment
unfoldable pub content : List ℕ → List ℕ
content l = take (index_of hash l) l

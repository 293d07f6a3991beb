-- A list gathered from the lines of a text, one after the other: what a line says, how far a text is read, and what is made of it. The kind of item, and what is known beside
-- the items, are any.
-- Assumes nothing.
use Rattle.std.specs.Prelude.{Bool, cond, List, [], ◌∷◌, ◌++◌, ℕ, ◌+◌, ltb, leb, length}
use Rattle.lines.specs.Lines.{lines}

-- a text of at most 2^20 bytes is read
abbrev pub most_text : ℕ
most_text = 1048576

-- what a line says: something to know, or nothing; an item; that the text ends here; or it is refused, by a number
pub data Says (H A : Type 0) : Type 0 where
  knows : H → Says H A
  has : H → A → Says H A
  over : Says H A
  bad : ℕ → Says H A

-- how far a text is read: before line k, with what is known and the items so far; over, at line k; or refused, by a number at line k. Lines count from 1
pub data Progress (H A : Type 0) : Type 0 where
  before : H → List A → ℕ → Progress H A
  ended : H → List A → ℕ → Progress H A
  refused_by : ℕ → ℕ → Progress H A

module _ {H A : Type 0} (says : ℕ → H → List ℕ → Says H A) (counts : A → Bool) (full room : ℕ) where
  -- an item that counts has to have room; where there is none it is refused, by the number `full`
  abbrev pub taking : H → List A → ℕ → A → Progress H A
  taking h l k a = cond (counts a) (cond (ltb (length l) room) (before h (l ++ (a ∷ [])) (k + 1)) (refused_by full k)) (before h l (k + 1))

  -- line k
  abbrev pub by_line : List A → ℕ → H → Says H A → Progress H A
  by_line l k h (knows h') = before h' l (k + 1)
  by_line l k h (has h' a) = taking h' l k a
  by_line l k h over = ended h l k
  by_line l k h (bad number) = refused_by number k

  abbrev pub onward : Progress H A → List ℕ → Progress H A
  onward (before h l k) x = by_line l k h (says k h x)
  onward (ended h l k) x = ended h l k
  onward (refused_by number k) x = refused_by number k

  -- the lines in turn
  unfoldable pub through : Progress H A → List (List ℕ) → Progress H A
  through p [] = p
  through p (x ∷ rest) = through (onward p x) rest

  -- a whole text; one that is too long is refused, by the number `long`, at no line
  unfoldable pub gathered : ℕ → H → List ℕ → Progress H A
  gathered long h t = cond (leb (length t) most_text) (through (before h [] 1) (lines t)) (refused_by long 0)

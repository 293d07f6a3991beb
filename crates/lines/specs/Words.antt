-- The words of a line: bytes between blanks. docs/TEXTS.md, "Lines".
-- Assumes nothing.
use Rattle.std.specs.Prelude.{Bool, true, false, cond, ◌&&◌, List, [], ◌∷◌, ℕ, suc, ◌+◌, eqb, length, take, drop, Ok, Err, Option, Some, None}
use lib.Pointwise.{pointwise}
use Rattle.text.specs.Blanks.{blank, blanks, past_blanks}
use Rattle.text.specs.Reading.{number_in, Reading}

-- how many bytes stand before the first blank
unfoldable pub letters : List ℕ → ℕ
letters [] = 0
letters (b ∷ l) = cond (blank b) 0 (suc (letters l))

-- the place after the word that stands from p on
abbrev pub past_word : List ℕ → ℕ → ℕ
past_word l p = p + letters (drop p l)

-- the first word of a line, which has none where it is blank
unfoldable pub first_word : List ℕ → List ℕ
first_word l = take (letters (drop (blanks l) l)) (drop (blanks l) l)

-- what stands after it
unfoldable pub after_word : List ℕ → List ℕ
after_word l = drop (letters (drop (blanks l) l)) (drop (blanks l) l)

-- from p on there are blanks alone
unfoldable pub blank_from : List ℕ → ℕ → Bool
blank_from l p = eqb (past_blanks l p) (length l)

-- the same bytes
abbrev pub same : List ℕ → List ℕ → Bool
same = pointwise eqb

-- what was read, where nothing but blanks follows
abbrev pub alone : List ℕ → Reading ℕ → Option ℕ
alone l (Ok a) = cond (blank_from l a.next) (Some a.value) None
alone l (Err w) = None

-- the number that a line says: one word, of digits, for a number of at most `most`
unfoldable pub only_number : ℕ → List ℕ → Option ℕ
only_number most l = alone l (number_in most l (past_blanks l 0))

-- the line says this one word
unfoldable pub only_word : List ℕ → List ℕ → Bool
only_word w l = same (first_word l) w && blank_from (after_word l) 0

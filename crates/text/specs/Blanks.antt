-- Blanks, which stand between the fields of a step.
-- Assumes nothing.
use Rattle.std.specs.Prelude.{Bool, cond, ◌||◌, List, [], ◌∷◌, ℕ, suc, ◌+◌, eqb, drop}

-- a blank: a space, a tab or a carriage return
abbrev pub blank : ℕ → Bool
blank b = eqb b 32 || (eqb b 9 || eqb b 13)

-- how many blanks a text begins with
unfoldable pub blanks : List ℕ → ℕ
blanks [] = 0
blanks (b ∷ t) = cond (blank b) (suc (blanks t)) 0

-- the place after the blanks that stand from p on
abbrev pub past_blanks : List ℕ → ℕ → ℕ
past_blanks t p = p + blanks (drop p t)

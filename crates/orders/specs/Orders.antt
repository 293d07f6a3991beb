-- The six orders of the codes 0, 1, 2. Document 01, "The steps of a script": "What is pending is one of the six orders of the codes 0, 1, 2 for each
-- variable. The 36 ways of following one order by another are one table."
-- Assumes nothing.
use Rattle.std.specs.Prelude.{ℕ, cond, List, [], ◌∷◌, eqb, get_or}

-- how many orders there are; order 0 changes no code
abbrev pub order_count : ℕ
order_count = 6

abbrev pub no_order : ℕ
no_order = 0

-- what each order makes of 0, 1 and 2
abbrev pub codes_after : List (List ℕ)
codes_after =
    (0 ∷ 1 ∷ 2 ∷ []) ∷
    (0 ∷ 2 ∷ 1 ∷ []) ∷
    (1 ∷ 0 ∷ 2 ∷ []) ∷
    (1 ∷ 2 ∷ 0 ∷ []) ∷
    (2 ∷ 0 ∷ 1 ∷ []) ∷
    (2 ∷ 1 ∷ 0 ∷ []) ∷ []

unfoldable pub code_after : ℕ → ℕ → ℕ
code_after o x = get_or (get_or codes_after o []) x 0

-- row p, column q: the order p followed by the order q
abbrev pub followings : List (List ℕ)
followings =
    (0 ∷ 1 ∷ 2 ∷ 3 ∷ 4 ∷ 5 ∷ []) ∷
    (1 ∷ 0 ∷ 3 ∷ 2 ∷ 5 ∷ 4 ∷ []) ∷
    (2 ∷ 4 ∷ 0 ∷ 5 ∷ 1 ∷ 3 ∷ []) ∷
    (3 ∷ 5 ∷ 1 ∷ 4 ∷ 0 ∷ 2 ∷ []) ∷
    (4 ∷ 2 ∷ 5 ∷ 0 ∷ 3 ∷ 1 ∷ []) ∷
    (5 ∷ 3 ∷ 4 ∷ 1 ∷ 2 ∷ 0 ∷ []) ∷ []

unfoldable pub follow : ℕ → ℕ → ℕ
follow p q = get_or (get_or followings p []) q 0

-- the order that takes each order back
abbrev pub inverses : List ℕ
inverses = 0 ∷ 1 ∷ 2 ∷ 4 ∷ 3 ∷ 5 ∷ []

unfoldable pub inverse : ℕ → ℕ
inverse o = get_or inverses o 0

-- the order of an L step: its literal's code and 2 exchanged
unfoldable pub letter_order : ℕ → ℕ
letter_order b = cond (eqb b 0) 5 1

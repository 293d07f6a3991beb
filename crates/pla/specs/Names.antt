-- The words of ESOP-PLA. docs/TEXTS.md, "A map: ESOP-PLA": "`.i n`, `.o m`, `.type esop`, `.p` […], `.ilb`/`.ob` read over, […] `.e` or `.end`".
-- Assumes nothing.
use Rattle.std.specs.Prelude.{cond, ◌||◌, List, [], ◌∷◌, ℕ, ◌≡◌, Result, Ok, Err, Option, Some, None, ◌⊎◌, ◌<◌}
use Rattle.lines.specs.Words.{same}
use Rattle.pla.specs.declared.names.Name.{Name}
use Rattle.pla.specs.declared.names.Name.TheVariants.{Inputs, Outputs, Kind, Products, Passed, End}
use Rattle.pla.specs.declared.names.UnknownName.{UnknownName}

abbrev pub dot : ℕ
dot = 46

-- the names, letter by letter
abbrev pub i_name : List ℕ
i_name = 46 ∷ 105 ∷ []

abbrev pub o_name : List ℕ
o_name = 46 ∷ 111 ∷ []

abbrev pub type_name : List ℕ
type_name = 46 ∷ 116 ∷ 121 ∷ 112 ∷ 101 ∷ []

abbrev pub p_name : List ℕ
p_name = 46 ∷ 112 ∷ []

abbrev pub ilb_name : List ℕ
ilb_name = 46 ∷ 105 ∷ 108 ∷ 98 ∷ []

abbrev pub ob_name : List ℕ
ob_name = 46 ∷ 111 ∷ 98 ∷ []

abbrev pub e_name : List ℕ
e_name = 46 ∷ 101 ∷ []

abbrev pub end_name : List ℕ
end_name = 46 ∷ 101 ∷ 110 ∷ 100 ∷ []

abbrev pub esop_word : List ℕ
esop_word = 101 ∷ 115 ∷ 111 ∷ 112 ∷ []

-- a name as a number: 1 `.i`, 2 `.o`, 3 `.type`, 4 `.p`, 5 a line to be read over, 6 the end; 0 for every other
unfoldable pub name_of : List ℕ → ℕ
name_of w =
    cond (same w i_name) 1
    (cond (same w o_name) 2
    (cond (same w type_name) 3
    (cond (same w p_name) 4
    (cond (same w ilb_name || same w ob_name) 5
    (cond (same w e_name || same w end_name) 6 0)))))

-- the number of a name
abbrev pub name_number : Name → ℕ
name_number Inputs = 1
name_number Outputs = 2
name_number Kind = 3
name_number Products = 4
name_number Passed = 5
name_number End = 6

-- and of a word that may be none
abbrev pub number_or_0 : Option Name → ℕ
number_or_0 (Some name) = name_number name
number_or_0 None = 0

-- what a number is read as: the name that has it
abbrev pub IsNameOf : ℕ → Result Name UnknownName → Type 0
IsNameOf n (Ok name) = name_number name ≡ n
IsNameOf n (Err e) = (e.number ≡ n) × ((n ≡ 0) ⊎ (6 < n))

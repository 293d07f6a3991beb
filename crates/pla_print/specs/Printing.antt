-- A map written out, in ESOP-PLA. docs/TEXTS.md: "A map is printed with `.i`, `.o`, `.type esop` and `.p`, a line for each product, `0` for an output that it is not in, and `.e`."
-- Assumes nothing.
use Rattle.std.specs.Prelude.{cond, List, [], ◌∷◌, ◌++◌, ℕ, zero, suc, eqb, length}
use Rattle.bits.specs.Bits.{bit}
use Rattle.records.specs.Records.{flat}
use Rattle.text.specs.Numbers.{decimal}
use Rattle.text.specs.Cubes.{cube_text}
use Rattle.shared.specs.declared.Shared.{Shared}
use Rattle.pla.specs.Names.{i_name, o_name, type_name, p_name, e_name, esop_word}

-- a line: a name, a space, and what it is for
abbrev pub name_line : List ℕ → List ℕ → List ℕ
name_line name s = name ++ (32 ∷ (s ++ (10 ∷ [])))

-- "`.i n`, `.o m`, `.type esop`, `.p`"
unfoldable pub head_text : ℕ → ℕ → ℕ → List ℕ
head_text n m count =
    name_line i_name (decimal n) ++ (name_line o_name (decimal m) ++ (name_line type_name esop_word ++ name_line p_name (decimal count)))

-- the characters of the outputs below m: 1 for one that the product is in, 0 for another
unfoldable pub outputs_text : ℕ → ℕ → List ℕ
outputs_text zero o = []
outputs_text (suc m) o = outputs_text m o ++ (cond (eqb (bit o m) 1) 49 48 ∷ [])

-- "cubes `01- 1`"
unfoldable pub product_text : ℕ → ℕ → Shared → List ℕ
product_text n m s = cube_text n s.cube ++ (32 ∷ (outputs_text m s.outputs ++ (10 ∷ [])))

-- the whole text
unfoldable pub pla_text : ℕ → ℕ → List Shared → List ℕ
pla_text n m l = head_text n m (length l) ++ (flat (product_text n m) l ++ (e_name ++ (10 ∷ [])))

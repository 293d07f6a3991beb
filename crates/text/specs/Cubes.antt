-- A cube written out. Document 01, "Cubes and lists": "a cube is `0`, `1` or `-` per variable, variable 0 first".
-- Assumes nothing.
use Rattle.std.specs.Prelude.{cond, List, [], ◌∷◌, ◌++◌, ℕ, zero, suc, eqb, ltb, Option, Some, None}
use Rattle.cube.specs.declared.Cube.{Cube}
use Rattle.cube.specs.Cubes.{code}

-- the character of a literal code
abbrev pub glyph : ℕ → ℕ
glyph x = cond (eqb x 0) 48 (cond (eqb x 1) 49 45)

-- the literal code of a character; 3 where it is none
abbrev pub code_of_glyph : ℕ → ℕ
code_of_glyph b = cond (eqb b 48) 0 (cond (eqb b 49) 1 (cond (eqb b 45) 2 3))

-- what a character stands for, where that is below `most`
abbrev pub known : ℕ → ℕ → Option ℕ
known most x = cond (ltb x most) (Some x) None

-- the codes of the variables below n
unfoldable pub cube_text : ℕ → Cube → List ℕ
cube_text zero c = []
cube_text (suc n) c = cube_text n c ++ (glyph (code c n) ∷ [])

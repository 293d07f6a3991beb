-- The record of a cube. Document 01, "Cubes and lists", with the widths of document 02, Seven.
-- Assumes nothing.
use Rattle.std.specs.Prelude.{List, [], ◌∷◌, ℕ, get_or}
use Rattle.records.specs.Records.{Codec, list_of}
use Rattle.records.specs.Fields.{by_fields}
use Rattle.cube.specs.declared.Cube.{Cube}

-- "a cube record becomes 8 bytes" (document 02, Seven)
abbrev pub record_width : ℕ
record_width = 8

-- the two numbers of a cube's record, and the cube of two numbers: "seen", then "value"
abbrev pub cube_fields : Cube → List ℕ
cube_fields c = c.seen ∷ c.value ∷ []

abbrev pub cube_of : List ℕ → Cube
cube_of xs = record { seen = get_or xs 0 0; value = get_or xs 1 0 }

-- the kind of record that has so many bytes for seen and as many for value, "each little-endian, bit k for variable k"
abbrev pub cube_record : ℕ → Codec Cube
cube_record w = by_fields (w ∷ w ∷ []) cube_fields cube_of

-- "four for seen and four for value" (document 02, Seven)
abbrev pub mask_width : ℕ
mask_width = 4

abbrev pub cubes : Codec Cube
cubes = cube_record mask_width

-- the list of cubes that a buffer's bytes are
abbrev pub cubes_of : List ℕ → List Cube
cubes_of b = list_of cubes b

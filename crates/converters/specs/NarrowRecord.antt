-- The narrow record of a cube, in which old lists are kept. Document 01, "Cubes and lists" and "Limits"; document 02, Seven: "Old lists stay in use".
-- Assumes nothing.
use Rattle.std.specs.Prelude.{List, ℕ}
use Rattle.records.specs.Records.{Codec, list_of}
use Rattle.cube.specs.declared.Cube.{Cube}
use Rattle.cube.specs.CubeRecord.{cube_record}

-- "A cube record is 4 bytes"
abbrev pub narrow_width : ℕ
narrow_width = 4

-- "two bytes "seen", two bytes "value", each little-endian"
abbrev pub narrow_mask : ℕ
narrow_mask = 2

abbrev pub narrow_cubes : Codec Cube
narrow_cubes = cube_record narrow_mask

-- the list of cubes that the bytes of an old list are
abbrev pub narrow_cubes_of : List ℕ → List Cube
narrow_cubes_of b = list_of narrow_cubes b

-- "n: 0 to 16"
abbrev pub narrow_variables : ℕ
narrow_variables = 16

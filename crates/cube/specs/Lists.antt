-- Lists of cubes: their limits, and their value. Document 01, "Cubes and lists" and "Limits", with the limit of document 02, Seven.
-- Assumes nothing.
use Rattle.std.specs.Prelude.{List, ℕ, ◌%◌, ◌^◌}
use Rattle.bits.specs.Below.{list_below}
use Rattle.bits.specs.Sums.{tally}
use Rattle.records.specs.Records.{capacity_of}
use Rattle.cube.specs.declared.Cube.{Cube}
use Rattle.cube.specs.Cubes.{holds}
pub use Rattle.cube.specs.CubeRecord.{record_width, cubes, cubes_of}

-- ---- limits

-- "Lists hold n up to 32" (document 02, Seven)
abbrev pub most_variables : ℕ
most_variables = 32

-- "for truth vectors and polarities 0 to 8"
abbrev pub vector_variables : ℕ
vector_variables = 8

-- "List: 0 to 4,096 records"
abbrev pub most_records : ℕ
most_records = 4096

-- ---- lists

-- how many cubes a lent buffer of so many bytes can hold
abbrev pub cube_capacity : ℕ → ℕ
cube_capacity room = capacity_of cubes most_records room

-- ---- value

-- how many products of a list are true at an assignment
unfoldable pub trues : ℕ → List Cube → ℕ → ℕ
trues n l a = tally (λ c. holds n c a) l

-- "A list's value at an assignment is the parity of how many of its products are true there"
unfoldable pub list_value : ℕ → List Cube → ℕ → ℕ
list_value n l a = trues n l a % 2

-- "A truth vector is 2^n bytes, each 0 or 1, indexed by assignment"
abbrev pub truth_vector : ℕ → List Cube → List ℕ
truth_vector n l = list_below (2 ^ n) (list_value n l)

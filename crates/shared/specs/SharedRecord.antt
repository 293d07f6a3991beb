-- The record of a shared product. Document 02, Nine: "a sibling record of 12 bytes: the wide cube, then four bytes of outputs, bit k for output k, never
-- zero".
-- Assumes nothing.
use Rattle.std.specs.Prelude.{◌≢◌, Bool, not, ◌&&◌, List, [], ◌∷◌, ℕ, eqb, get_or}
use Rattle.records.specs.Records.{Codec, list_of, capacity_of}
use Rattle.records.specs.Fields.{by_fields}
use Rattle.cube.specs.declared.Cube.{Cube}
use Rattle.cube.specs.Cubes.{one, good, Good}
use Rattle.cube.specs.CubeRecord.{cube_of, mask_width}
use Rattle.cube.specs.Lists.{most_records}
use Rattle.shared.specs.declared.Shared.{Shared}

-- a product with its outputs
abbrev pub sharing : ℕ → Cube → Shared
sharing o c = record { cube = c; outputs = o }

-- the record whose bytes are all zero, which stands past the end of a list: it carries no output
abbrev pub no_shared : Shared
no_shared = sharing 0 one

-- ---- its bytes

-- "a sibling record of 12 bytes"
abbrev pub shared_width : ℕ
shared_width = 12

-- "four bytes of outputs"
abbrev pub outputs_width : ℕ
outputs_width = 4

-- "the wide cube, then four bytes of outputs"
abbrev pub shares : Codec Shared
shares =
    by_fields (mask_width ∷ mask_width ∷ outputs_width ∷ [])
    (λ r. r.cube.seen ∷ r.cube.value ∷ r.outputs ∷ [])
    (λ xs. sharing (get_or xs 2 0) (cube_of xs))

-- the list of shared products that a buffer's bytes are
abbrev pub shares_of : List ℕ → List Shared
shares_of b = list_of shares b

-- "capacities and refusal 2 go by 12 bytes": how many shared products a lent buffer of so many bytes can hold
abbrev pub shared_capacity : ℕ → ℕ
shared_capacity room = capacity_of shares most_records room

-- ---- what is accepted of it

-- a good cube, and outputs "never zero"
abbrev pub fine : ℕ → Shared → Bool
fine n r = good n r.cube && not (eqb r.outputs 0)

-- the same, taken apart
pub record Fine (n : ℕ) (r : Shared) : Type 0 where
  pub good : Good n r.cube
  pub some : r.outputs ≢ 0

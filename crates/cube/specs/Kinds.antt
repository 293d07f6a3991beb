-- Inside: that a cube's record is a kind of record.
-- Assumes nothing.
use Rattle.std.specs.Prelude.{refl, [], ◌∷◌}
use lib.Dec.{lit<}
use Rattle.records.specs.Kinds.{Laws}
use Rattle.records.proofs.Fields.{fields_laws}
use Rattle.cube.specs.CubeRecord.{mask_width, cube_fields, cube_of, cubes}

pub cubes_laws : Laws cubes
cubes_laws =
    fields_laws (mask_width ∷ mask_width ∷ []) cube_fields cube_of
    (record { wide = refl; some = lit< tt; many = λ c. refl; back = λ c. refl; there = λ b base. refl; none = refl })

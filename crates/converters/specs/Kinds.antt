-- Inside: that a narrow record of a cube is a kind of record.
-- Assumes nothing.
use Rattle.std.specs.Prelude.{refl, [], ◌∷◌}
use lib.Dec.{lit<}
use Rattle.records.specs.Kinds.{Laws}
use Rattle.records.proofs.Fields.{fields_laws}
use Rattle.cube.specs.CubeRecord.{cube_fields, cube_of}
use Rattle.converters.specs.NarrowRecord.{narrow_mask, narrow_cubes}

pub narrow_laws : Laws narrow_cubes
narrow_laws =
    fields_laws (narrow_mask ∷ narrow_mask ∷ []) cube_fields cube_of
    (record { wide = refl; some = lit< tt; many = λ c. refl; back = λ c. refl; there = λ b base. refl; none = refl })

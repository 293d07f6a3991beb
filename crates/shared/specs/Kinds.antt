-- Inside: that a shared product's record is a kind of record.
-- Assumes nothing.
use Rattle.std.specs.Prelude.{refl, [], ◌∷◌, get_or}
use lib.Dec.{lit<}
use Rattle.records.specs.Kinds.{Laws}
use Rattle.records.proofs.Fields.{fields_laws}
use Rattle.cube.specs.CubeRecord.{mask_width, cube_of}
use Rattle.shared.specs.SharedRecord.{sharing, outputs_width, shares}

pub shares_laws : Laws shares
shares_laws =
    fields_laws (mask_width ∷ mask_width ∷ outputs_width ∷ [])
    (λ r. r.cube.seen ∷ r.cube.value ∷ r.outputs ∷ [])
    (λ xs. sharing (get_or xs 2 0) (cube_of xs))
    (record { wide = refl; some = lit< tt; many = λ r. refl; back = λ r. refl; there = λ b base. refl; none = refl })

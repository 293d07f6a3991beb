-- `value::fill_vector` meets its contract.
-- Assumes nothing.
use Rattle.cube.proofs.value.Valuing.{vector_is}
use Rattle.cube.proofs.value.fill_vector.Goals as goal

pub returns : goal.returns
returns c =
    vector_is _ _ _ _ c.requires.assignments_value.0 c.requires.assignments_value.1 c.requires.all c.requires.assignments_in_bounds _ c.value_bits.ensures _ c.put.ensures

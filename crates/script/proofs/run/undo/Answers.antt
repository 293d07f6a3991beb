-- What is pending, taken back in a list of cubes.
-- Assumes nothing.
use native.Mathlib.Nat.{le_refl}
use native.Mathlib.Omega.{arith}
use Rattle.cube.specs.Cubes.{good, Good}
use Rattle.cube.specs.Lists.{cubes, most_variables}
use Rattle.cube.proofs.Codes.{parts_good}
use Rattle.script.proofs.Carrying.{ready_carries}
use Rattle.script.proofs.run.undo.Goals as goal

pub of-requires : goal.of-requires
of-requires c =
    let a = c.args in
    record {
      ready =
          ready_carries cubes (good most_variables) (Good most_variables) most_variables a.count 0 a.work.now (parts_good most_variables)
          (record { held = c.requires.held; good = c.requires.all; few = le_refl most_variables; room = omega arith });
    }

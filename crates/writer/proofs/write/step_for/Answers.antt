-- `write::step_for` meets its contract.
-- Assumes nothing.
use mathlib.Core.Bool.{not}
use native.Mathlib.Omega.{arith}
use lib.Count.{ones}
use lib.Dec.{eqb}
use Rattle.bits.proofs.Bools.{one_lt}
use Rattle.records.specs.Records.{records}
use Rattle.cube.specs.Lists.{cubes}
use Rattle.writer.proofs.Searching.{read_cube, read_good}
use Rattle.writer.proofs.Writing.{step_written}
use Rattle.writer.proofs.write.step_for.Goals as goal

pub overflow_add-result : goal.overflow_add-result
overflow_add-result c = omega (arith, one_lt (not (eqb (ones c.differing-set.result) 0)))

pub returns : goal.returns
returns c =
    step_written _ (records cubes _ _) _ _ _ _ (read_cube _ _ _ c.requires.ready _ c.requires.i_lt_count.0 _ c.record_at.ensures) (read_cube _ _ _ c.requires.ready _ c.requires.i_lt_count.1 _ c.record_at-2.ensures)
    (read_good _ _ _ c.requires.ready _ c.requires.i_lt_count.0 _ c.record_at.ensures) (read_good _ _ _ c.requires.ready _ c.requires.i_lt_count.1 _ c.record_at-2.ensures) _ c.differing-set.ensures

-- `lengths::count_records` meets its contract: the loop keeps `CountingRecords`.
-- Assumes nothing.
use native.Mathlib.Omega.{arith}
use Rattle.selector.proofs.lengths.Adding.{counting_none, counting_fits, counting_more, counting_done}
use Rattle.selector.proofs.lengths.count_records.Goals as goal

pub loop-length-init : goal.loop-length-init
loop-length-init c = counting_none _

pub overflow_add-records : goal.overflow_add-records
overflow_add-records c = omega (arith, counting_fits _ _ _ c.loop-length.invariant _ c.requires c.loop-length-test.true)

pub loop-length-preserved : goal.loop-length-preserved
loop-length-preserved c = counting_more _ _ _ c.loop-length.invariant c.loop-length-test.true

pub returns : goal.returns
returns c = counting_done _ _ _ c.loop-length.invariant _ c.requires c.loop-length-test.false

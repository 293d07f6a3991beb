-- `lengths::count_records` meets its contract: the loop keeps `CountingRecords`.
-- Assumes nothing.
use Rattle.selector.proofs.lengths.Adding.{CountingRecords}
use Rattle.selector.proofs.lengths.count_records.Given as goal

abbrev pub invariant-loop-length : goal.invariant-loop-length
invariant-loop-length l = CountingRecords l.lengths l.records l.length-index

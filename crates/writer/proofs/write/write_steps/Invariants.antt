-- `write::write_steps` meets its contract: the loop keeps `Writing`.
-- Assumes nothing.
use Rattle.writer.proofs.Writing.{Writing}
use Rattle.writer.proofs.write.write_steps.Given as goal

abbrev pub invariant-loop-k : goal.invariant-loop-k
invariant-loop-k l = Writing l.n l.first l.fn.work l.fn.script l.fn.marks l.work l.script l.marks l.count l.row l.k

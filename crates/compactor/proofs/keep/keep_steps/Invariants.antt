-- `keep::keep_steps` meets its contract: the loop keeps `Stacked`.
-- Assumes nothing.
use lib.ListN.{length}
use Rattle.compactor.proofs.Stack.{Stacked}
use Rattle.compactor.proofs.keep.keep_steps.Given as goal

abbrev pub invariant-loop-k : goal.invariant-loop-k
invariant-loop-k l = Stacked (length l.initial.kept) l.script l.first l.kept l.top l.count l.k

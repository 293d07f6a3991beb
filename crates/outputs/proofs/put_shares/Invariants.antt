-- `put_shares` meets its contract: the loop keeps `Sharing`.
-- Assumes nothing.
use Rattle.outputs.proofs.Sharing.{Sharing}
use Rattle.outputs.proofs.put_shares.Given as goal

abbrev pub invariant-loop-i : goal.invariant-loop-i
invariant-loop-i l = Sharing l.outputs l.list l.initial.out l.out l.i

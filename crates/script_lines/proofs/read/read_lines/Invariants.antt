-- `read::read_lines` meets its contract. The invariant: the buffer holds the steps so far, and zeros after them; the measure is what is left of the text.
-- Assumes nothing.
use Prim.Native.Nat.{◌-◌}
use lib.ListN.{length}
use Rattle.script_lines.proofs.Gathered.{Reading}
use Rattle.script_lines.proofs.read.read_lines.Given as goal

abbrev pub invariant-loop-at : goal.invariant-loop-at
invariant-loop-at l = Reading l.text (length l.initial.out) l.out l.at l.n l.k

abbrev pub decreases-loop-at : goal.decreases-loop-at
decreases-loop-at l = length l.text - l.at

-- `read::gathered` meets its contract: what each line does to what is read so far. The measure is what is left of the text.
-- Assumes nothing.
use Prim.Native.Nat.{◌-◌}
use lib.ListN.{length}
use Rattle.pla.proofs.Reading.{Reading}
use Rattle.pla.proofs.read.gathered.Given as goal

abbrev pub invariant-loop-at : goal.invariant-loop-at
invariant-loop-at l = Reading l.text (length l.initial.out) l.h l.count l.at l.line l.out

abbrev pub decreases-loop-at : goal.decreases-loop-at
decreases-loop-at l = length l.text - l.at

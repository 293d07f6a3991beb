-- `find::near_at` meets its contract.
-- Assumes nothing.
use mathlib.Core.Path.{ap}
use Prim.Native.Nat.{ℕ}
use lib.Count.{ones}
use lib.Dec.{ltb}
use Rattle.writer.specs.Watching.{near}
use Rattle.writer.proofs.find.near_at.Goals as goal

pub returns : goal.returns
unfolding near
returns c = ap (λ (x : ℕ). ltb (ones x) 2) c.differing_at.ensures.fixed

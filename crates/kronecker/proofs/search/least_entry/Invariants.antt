-- `search::least_entry` meets its contract. The loop's invariant: of the entries passed, the least so far and its place.
-- Assumes nothing.
use Prim.Native.Nat.{◌≤◌}
use lib.ListN.{length}
use Rattle.kronecker.proofs.search.Ranges.{Passed}
use Rattle.kronecker.proofs.search.least_entry.Given as goal

abbrev pub invariant-loop-i : goal.invariant-loop-i
invariant-loop-i l = (l.i ≤ length l.table) × Passed l.table l.i l.least l.choice

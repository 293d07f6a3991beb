-- `parts::numbers` keeps: there are no more numbers than a row has parts. It ends: each turn has one more.
-- Assumes nothing.
use Rattle.std.proofs.Common.{suc, ◌-◌, ◌≤◌}
use Rattle.selector.specs.Maps.{most_lists}
use Rattle.map_rows.proofs.parts.numbers.Given as goal

abbrev pub invariant-loop-found : goal.invariant-loop-found
invariant-loop-found l = l.found ≤ suc most_lists

abbrev pub decreases-loop-found : goal.decreases-loop-found
decreases-loop-found l = suc (suc most_lists) - l.found

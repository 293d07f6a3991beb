-- `parts::parts_of` keeps: the parts together end within the buffer, and there are no more lengths than a row has parts. It ends: each turn has one more.
-- Assumes nothing.
use Rattle.std.proofs.Common.{suc, ◌≡◌, ◌-◌, ◌≤◌, length}
use Rattle.selector.specs.Maps.{most_lists}
use Rattle.map_rows.proofs.parts.parts_of.Given as goal

abbrev pub invariant-loop-count : goal.invariant-loop-count
invariant-loop-count l = (l.end ≤ length l.out) × ((length l.out ≡ length l.initial.out) × (l.count ≤ suc most_lists))

abbrev pub decreases-loop-count : goal.decreases-loop-count
decreases-loop-count l = suc (suc most_lists) - l.count

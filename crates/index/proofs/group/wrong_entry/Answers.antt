-- `group::wrong_entry` meets its contract: the loop keeps `Comparing`.
-- Assumes nothing.
use native.Mathlib.Omega.{arith}
use Rattle.index.proofs.group.Comparing.{comparing_none, comparing_lt, comparing_room, comparing_more, comparing_end}
use Rattle.index.proofs.group.wrong_entry.Goals as goal

pub loop-p-init : goal.loop-p-init
loop-p-init c = search comparing_none

pub place_at-requires : goal.place_at-requires
place_at-requires c = search comparing_room

pub overflow_add-next : goal.overflow_add-next
overflow_add-next c = omega (arith, comparing_lt _ _ _ _ _ _ c.loop-p.invariant c.loop-p-test.true _ c.literals_at-m.ensures.value c.literals_at-m.ensures.upper_bound)

pub loop-p-preserved : goal.loop-p-preserved
loop-p-preserved c = search comparing_more

pub returns : goal.returns
returns c = search comparing_end

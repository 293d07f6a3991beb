-- `compact::put_kept` meets its contract: the loop keeps `Putting`.
-- Assumes nothing.
use native.Mathlib.Omega.{arith}
use Rattle.compactor.proofs.Calls.{putting_none, putting_end, putting_room, putting_inside, putting_more}
use Rattle.compactor.proofs.compact.put_kept.Goals as goal

pub loop-t-init : goal.loop-t-init
loop-t-init c = search putting_none

pub halves_at-requires : goal.halves_at-requires
halves_at-requires c =
    rw c.from-k.ensures (putting_inside _ _ _ _ _ _ c.loop-t.invariant c.requires.top_in_bounds c.requires.all c.loop-t-test.true)

pub put_halves-requires : goal.put_halves-requires
put_halves-requires c =
    putting_room _ _ _ _ _ _ c.loop-t.invariant c.requires.top_in_bounds c.requires.all c.loop-t-test.true

pub loop-t-preserved : goal.loop-t-preserved
loop-t-preserved c =
    putting_more _ _ _ _ _ _ c.loop-t.invariant c.requires.top_in_bounds c.requires.all c.loop-t-test.true (λ i. omega (arith, c.type_inv.script i)) _ (rw c.from-k.ensures at c.halves_at.ensures) _
    c.put_halves.ensures

pub returns : goal.returns
returns c = search putting_end

-- `keep::takes_off` meets its contract.
-- Assumes nothing.
use native.Mathlib.Omega.{arith}
use Rattle.compactor.proofs.Stack.{off_none, off_last}
use Rattle.compactor.proofs.keep.takes_off.Goals as goal

pub returns-then-top-eq0 : goal.returns-then-top-eq0
returns-then-top-eq0 c = search off_none

pub halves_at-requires : goal.halves_at-requires
halves_at-requires c = rw c.from-last.ensures (c.requires.top_in_bounds_2 (omega (arith, c.if-top-eq0.false)))

pub returns : goal.returns
returns c = search off_last

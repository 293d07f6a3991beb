-- `search::lesser_from` meets its contract.
-- Assumes nothing.
use Prim.Native.Nat.{◌≤◌}
use native.Mathlib.Omega.{arith}
use borrow.Author.Tests.{lt-ltb, le-ltb}
use Rattle.kronecker.specs.Words.{lesser_from}
use Rattle.kronecker.proofs.search.lesser_from.Goals as goal

pub returns-then-y-x : goal.returns-then-y-x
unfolding lesser_from
returns-then-y-x c = rw (lt-ltb _ _ c.if-y-x.true)

pub returns : goal.returns
unfolding lesser_from
returns c = let h : c.args.x.cost ≤ c.args.y.cost = omega (arith, c.if-y-x.false) in rw (le-ltb _ _ h)

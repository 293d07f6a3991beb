-- `pair::count_after` meets its contract.
-- Assumes nothing.
use native.Mathlib.Omega.{arith}
use Rattle.compactor.proofs.Pairs.{count_drop, count_join, count_split, count_same}
use Rattle.compactor.proofs.pair.count_after.Goals as goal

pub returns-in-0 : goal.returns-in-0
returns-in-0 c = search count_drop

pub returns-in-2 : goal.returns-in-2
returns-in-2 c = search count_join

pub returns-in-3 : goal.returns-in-3
returns-in-3 c = search count_split

pub returns-in_default : goal.returns-in_default
returns-in_default c = count_same _ _ _ c.operation.ensures (omega arith) (λ e. omega arith) (λ e. omega arith)

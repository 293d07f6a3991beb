-- `pair::is_pair` meets its contract.
-- Assumes nothing.
use Rattle.compactor.proofs.StepBytes.{pair_split, pair_other}
use Rattle.compactor.proofs.pair.is_pair.Goals as goal

pub returns-then-op-eq3 : goal.returns-then-op-eq3
returns-then-op-eq3 c = pair_split _ _ _ _ c.operation-op.ensures c.if-op-eq3.true _ c.join_of.ensures _ c.eq.ensures

pub returns : goal.returns
returns c = pair_other _ _ _ _ c.operation-op.ensures c.if-op-eq3.false _ c.eq-2.ensures

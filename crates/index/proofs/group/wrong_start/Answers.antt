-- `group::wrong_start` meets its contract: the loop keeps `Agreeing`.
-- Assumes nothing.
use Rattle.index.proofs.Apart.{agreeing_none, agreeing_more, agreeing_apart, agreeing_end}
use Rattle.index.proofs.group.wrong_start.Goals as goal

pub loop-m-init : goal.loop-m-init
loop-m-init c = agreeing_none _ _ _

pub returns-then-starts-m : goal.returns-then-starts-m
returns-then-starts-m c = agreeing_apart _ _ _ _ c.loop-m.invariant c.if-starts-m.true

pub loop-m-preserved : goal.loop-m-preserved
loop-m-preserved c = agreeing_more _ _ _ _ c.loop-m.invariant c.loop-m-test.true c.if-starts-m.false

pub returns : goal.returns
returns c = agreeing_end _ _ _ _ c.loop-m.invariant c.loop-m-test.false

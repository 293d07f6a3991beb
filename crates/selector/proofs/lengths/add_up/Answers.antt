-- `lengths::add_up` meets its contract: the loop keeps `Adding`.
-- Assumes nothing.
use Rattle.selector.proofs.lengths.Adding.{adding_none, adding_more, adding_short, adding_done}
use Rattle.selector.proofs.lengths.add_up.Goals as goal

pub loop-length-init : goal.loop-length-init
loop-length-init c = adding_none _ _

pub returns-then-left-length : goal.returns-then-left-length
returns-then-left-length c = adding_short _ _ _ _ c.loop-length.invariant c.loop-length-test.true c.if-left-length.true

pub loop-length-preserved : goal.loop-length-preserved
loop-length-preserved c = adding_more _ _ _ _ c.loop-length.invariant c.loop-length-test.true c.if-left-length.false

pub returns : goal.returns
returns c = adding_done _ _ _ _ c.loop-length.invariant c.loop-length-test.false

-- `shared_steps::decide::carried` meets its contract.
-- Assumes nothing.
use Rattle.steps.specs.Changes.{move_of}
use Rattle.shared_steps.proofs.decide.Deciding.{carried_is}
use Rattle.shared_steps.proofs.decide.carried.Goals as goal

pub returns-in-Refuse : goal.returns-in-Refuse
unfolding move_of
returns-in-Refuse c = carried_is _ _ _ c.in-Refuse.is

pub returns-in-Drop : goal.returns-in-Drop
unfolding move_of
returns-in-Drop c = carried_is _ _ _ c.in-Drop.is

pub returns-in-Join : goal.returns-in-Join
unfolding move_of
returns-in-Join c = carried_is _ _ _ c.in-Join.is

pub returns-in-Split : goal.returns-in-Split
unfolding move_of
returns-in-Split c = carried_is _ _ _ c.in-Split.is

pub returns-in-Turn : goal.returns-in-Turn
unfolding move_of
returns-in-Turn c = carried_is _ _ _ c.in-Turn.is

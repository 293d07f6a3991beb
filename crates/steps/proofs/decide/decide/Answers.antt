-- `steps::decide::decide` meets its contract.
-- Assumes nothing.
use Rattle.steps.specs.Steps.{decision}
use Rattle.steps.proofs.Making.{decided, no_letter}
use Rattle.steps.proofs.decide.decide.Goals as goal

pub unreachable-requires : goal.unreachable-requires
unreachable-requires c = no_letter c.args.x c.requires.op_bound _ _ c.in-L.ensures

pub returns-in-Drop : goal.returns-in-Drop
unfolding decision
returns-in-Drop c = decided _ _ _ c.args.x _ _ _ _ c.in-Drop.ensures c.decide_drop.ensures

pub returns-in-Join : goal.returns-in-Join
unfolding decision
returns-in-Join c = decided _ _ _ c.args.x _ _ _ _ c.in-Join.ensures c.decide_join.ensures

pub returns-in-Split : goal.returns-in-Split
unfolding decision
returns-in-Split c = decided _ _ _ c.args.x _ _ _ _ c.in-Split.ensures c.decide_split.ensures

pub returns-in-Turn : goal.returns-in-Turn
unfolding decision
returns-in-Turn c = decided _ _ _ c.args.x _ _ _ _ c.in-Turn.ensures c.decide_turn.ensures

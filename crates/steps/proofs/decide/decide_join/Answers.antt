-- `steps::decide::decide_join` meets its contract.
-- Assumes nothing.
use Rattle.steps.specs.Steps.{join_move}
use Rattle.steps.proofs.decide.Deciding.{places_refused, join_unlike, join_third}
use Rattle.steps.proofs.decide.decide_join.Goals as goal

pub returns-in-Some : goal.returns-in-Some
unfolding join_move
returns-in-Some c = places_refused _ _ _ _ c.in-Some.ensures _ _ c.refuse.ensures

pub returns-then-set-ne1 : goal.returns-then-set-ne1
returns-then-set-ne1 c = let passed = c.in_default.ensures in search join_unlike

pub returns : goal.returns
returns c = let passed = c.in_default.ensures in search join_third

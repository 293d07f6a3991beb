-- `steps::decide::decide_drop` meets its contract.
-- Assumes nothing.
use Rattle.steps.specs.Steps.{drop_move}
use Rattle.steps.proofs.decide.Deciding.{places_refused, drop_unlike, drop_equal}
use Rattle.steps.proofs.decide.decide_drop.Goals as goal

pub returns-in-Some : goal.returns-in-Some
unfolding drop_move
returns-in-Some c = places_refused _ _ _ _ c.in-Some.ensures _ _ c.refuse.ensures

pub returns-then-set-ne0 : goal.returns-then-set-ne0
returns-then-set-ne0 c = let passed = c.in_default.ensures in search drop_unlike

pub returns : goal.returns
returns c = let passed = c.in_default.ensures in search drop_equal

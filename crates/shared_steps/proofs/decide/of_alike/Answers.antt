-- `shared_steps::decide::of_alike` meets its contract.
-- Assumes nothing.
use mathlib.Core.Path.{ap}
use Rattle.steps.specs.Changes.{move_of}
use Rattle.shared_steps.proofs.decide.Deciding.{alike_equal, alike_refused, alike_unlike}
use Rattle.shared_steps.proofs.decide.of_alike.Goals as goal

pub returns-then-a-b : goal.returns-then-a-b
returns-then-a-b c = alike_equal _ _ _ _ c.if-a-b.true c.carried.ensures

pub returns-in-Refuse : goal.returns-in-Refuse
unfolding move_of
returns-in-Refuse c = search alike_refused

pub returns-in_default : goal.returns-in_default
unfolding move_of
returns-in_default c = alike_unlike _ _ _ _ c.if-a-b.false c.in_default.not-Refuse (ap move_of c.refuse.ensures)

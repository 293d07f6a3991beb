-- `shared_steps::decide::decide_merge` meets its contract.
-- Assumes nothing.
use mathlib.Core.Path.{ap}
use Rattle.steps.specs.Changes.{move_of}
use Rattle.steps.proofs.decide.Deciding.{places_refused}
use Rattle.shared_steps.specs.SharedSteps.{merge_move}
use Rattle.shared_steps.proofs.decide.Deciding.{merge_unlike, merge_same, merge_made}
use Rattle.shared_steps.proofs.decide.decide_merge.Goals as goal

pub returns-in-Some : goal.returns-in-Some
unfolding merge_move
returns-in-Some c = places_refused _ _ _ _ c.in-Some.ensures _ _ c.refuse.ensures

pub returns-then-differing-ne0 : goal.returns-then-differing-ne0
unfolding move_of
returns-then-differing-ne0 c =
    merge_unlike _ _ _ _ _ _ _ c.in_default.ensures c.requires.0 c.requires.1 _ c.differing.ensures.fixed c.if-differing-ne0.true (ap move_of c.refuse-then-differing-ne0.ensures)

pub returns-then-a-b : goal.returns-then-a-b
unfolding move_of
returns-then-a-b c = merge_same _ _ _ _ _ _ _ c.in_default.ensures c.if-a-b.true (ap move_of c.refuse-then-a-b.ensures)

pub returns : goal.returns
unfolding move_of
returns c = let passed = c.in_default.ensures in search merge_made

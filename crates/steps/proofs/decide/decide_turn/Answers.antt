-- `steps::decide::decide_turn` meets its contract.
-- Assumes nothing.
use mathlib.Core.Path.{refl}
use Rattle.steps.specs.Steps.{turn_move}
use Rattle.steps.proofs.decide.Deciding.{places_refused, turn_unlike, turn_elsewhere, turn_both}
use Rattle.steps.proofs.decide.decide_turn.Goals as goal

pub returns-in-Some : goal.returns-in-Some
unfolding turn_move
returns-in-Some c = places_refused _ _ _ _ c.in-Some.ensures _ _ c.refuse.ensures

pub returns-then-set-ne2 : goal.returns-then-set-ne2
returns-then-set-ne2 c = let passed = c.in_default.ensures in search turn_unlike

pub returns-then-bit-eq0 : goal.returns-then-bit-eq0
returns-then-bit-eq0 c = let passed = c.in_default.ensures in search turn_elsewhere

pub returns : goal.returns
returns c =
    turn_both _ _ _ _ _ _ c.in_default.ensures c.requires.good.0 c.requires.good.1 _ c.differing-set.ensures.fixed _ c.requires.v_lt_n.1
    c.if-set-ne2.false _ c.bit.ensures c.if-bit-eq0.false _ c.only.ensures _ refl
    _ _ c.third_at.ensures c.third_at-2.ensures

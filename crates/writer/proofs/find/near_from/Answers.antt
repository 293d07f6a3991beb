-- `find::near_from` meets its contract: the loop keeps `NoneTo`.
-- Assumes nothing.
use mathlib.Core.Path.{sym, ◌∙◌}
use Rattle.bits.proofs.First.{none_next, first_end, first_here}
use Rattle.writer.proofs.find.near_from.Goals as goal

pub loop-i-init : goal.loop-i-init
loop-i-init c = c.far_to-i.ensures

pub returns-then-near_at : goal.returns-then-near_at
returns-then-near_at c = first_here _ _ _ _ c.loop-i.invariant (sym c.near_at.ensures ∙ c.if-near_at.true)

pub loop-i-preserved : goal.loop-i-preserved
loop-i-preserved c =
    none_next _ _ _ _ c.loop-i.invariant c.loop-i-test.true (sym c.near_at.ensures ∙ c.if-near_at.false)

pub returns : goal.returns
returns c = first_end _ _ _ _ c.loop-i.invariant c.loop-i-test.false

-- `node::second_half` meets its contract.
-- Assumes nothing.
use mathlib.Core.Path.{ap, ◌∙◌}
use Rattle.bits.specs.Packed.{summed}
use Rattle.trees.proofs.node.second_half.Goals as goal

pub returns-in-Shannon : goal.returns-in-Shannon
returns-in-Shannon g c = rw c.in-Shannon.is (c.sum-upper.ensures ∙ ap (summed (g.B.Bits.shown c.args.w)) c.lowered-change.ensures)

pub returns-in-Positive : goal.returns-in-Positive
returns-in-Positive g c = rw c.in-Positive.is c.lowered-change.ensures

pub returns-in-Negative : goal.returns-in-Negative
returns-in-Negative g c = rw c.in-Negative.is c.lowered-change.ensures

-- `node::first_half` meets its contract.
-- Assumes nothing.
use mathlib.Core.Path.{ap, ◌∙◌}
use Rattle.bits.specs.Packed.{summed}
use Rattle.trees.proofs.node.first_half.Goals as goal

pub returns-in-Shannon : goal.returns-in-Shannon
returns-in-Shannon g c = rw c.in-Shannon.is

pub returns-in-Positive : goal.returns-in-Positive
returns-in-Positive g c = rw c.in-Positive.is

pub returns-in-Negative : goal.returns-in-Negative
returns-in-Negative g c = rw c.in-Negative.is (c.sum-upper.ensures ∙ ap (summed (g.B.Bits.shown c.args.w)) c.lowered.ensures)

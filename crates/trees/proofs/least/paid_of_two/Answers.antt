-- `least::paid_of_two` meets its contract.
-- Assumes nothing.
use mathlib.Core.Path.{refl}
use native.Mathlib.Numerals.{add-one}
use Rattle.trees.proofs.least.Costing.{paid_node}
use Rattle.trees.proofs.least.paid_of_two.Goals as goal

pub returns : goal.returns
returns c =
    paid_node c.args.k _ 2 1 (add-one c.args.k) refl c.requires c.args.w _ _ c.lowered-change.ensures c.sum-upper.ensures _ _ _ _
    c.paid_of_one.ensures c.paid_of_one-2.ensures c.paid_of_one-3.ensures c.joined.ensures

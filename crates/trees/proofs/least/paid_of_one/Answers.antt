-- `least::paid_of_one` meets its contract.
-- Assumes nothing.
use mathlib.Core.Path.{refl}
use Prim.Native.Nat.{◌+◌}
use native.Mathlib.Numerals.{add-one}
use Rattle.trees.proofs.least.Costing.{paid_none, paid_node}
use Rattle.trees.proofs.least.paid_of_one.Goals as goal

pub returns : goal.returns
returns c =
    paid_node c.args.k (c.args.k + 1) 1 0 (add-one c.args.k) refl c.requires c.args.w _ _ c.lowered-change.ensures c.sum-upper.ensures _ _ _ _
    (paid_none (c.args.k + 1) _ _ c.paid_of_none.ensures)
    (paid_none (c.args.k + 1) _ _ c.paid_of_none-2.ensures)
    (paid_none (c.args.k + 1) _ _ c.paid_of_none-3.ensures)
    c.joined.ensures

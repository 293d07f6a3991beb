-- `least::choose` meets its contract.
-- Assumes nothing.
use mathlib.Core.Path.{refl}
use native.Mathlib.Numerals.{add-one}
use Rattle.trees.proofs.least.Costing.{choice_free, choice_paid}
use Rattle.trees.proofs.least.choose.Goals as goal

pub returns-then-free : goal.returns-then-free
returns-then-free c =
    rw c.if-free.true
    (choice_free c.args.k _ _ c.args.m (add-one c.args.k) refl c.requires c.args.w _ _ c.lowered-change.ensures c.sum-upper.ensures _ _ _
    c.costs_from-l.ensures c.costs_from-h.ensures c.least_paid-d.ensures _ c.first_least.ensures)

pub returns : goal.returns
returns c =
    rw c.if-free.false
    (choice_paid c.args.k _ _ c.args.m (add-one c.args.k) refl c.requires c.args.w _ _ c.lowered-change.ensures c.sum-upper.ensures _ _ _
    c.least_paid-l.ensures c.least_paid-h.ensures c.least_paid-d.ensures _ c.first_least-2.ensures)

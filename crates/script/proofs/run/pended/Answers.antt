-- `run::pended` meets its contract.
-- Assumes nothing.
use mathlib.Core.Path.{ap, ◌∙◌}
use native.Mathlib.Omega.{arith}
use lib.ListN.{get_or, set}
use Rattle.orders.specs.Orders.{follow}
use Rattle.script.proofs.run.Advancing.{pend_other, pend_l, pend_out}
use Rattle.script.proofs.run.pended.Goals as goal

pub returns-then-op-lt5 : goal.returns-then-op-lt5
returns-then-op-lt5 c = search pend_other

pub returns-then-v-ge-MOST_VARIABLES : goal.returns-then-v-ge-MOST_VARIABLES
returns-then-v-ge-MOST_VARIABLES c = pend_out _ _ c.if-op-lt5.false (omega (arith, c.well_formed.0))

pub returns : goal.returns
returns c =
    let a = c.args in
    ap (set a.pending a.x.v) (c.follow.ensures ∙ ap (follow (get_or a.pending a.x.v 0)) c.letter_order.ensures)
    ∙ pend_l _ _ c.if-op-lt5.false

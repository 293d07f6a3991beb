-- `steps::step::step_on` meets its contract: an L step by one pass, the others by a decision and its change.
-- Assumes nothing.
use mathlib.Core.Path.{sym}
use native.Mathlib.Nat.{lt_of_lt_of_le}
use borrow.Author.Tests.{eqb-true}
use Rattle.steps.proofs.step.OnKind.{letter_made, change_placed, change_made}
use Rattle.steps.proofs.step.step_on.Goals as goal

pub reorder_on-requires-clause-v_lt_most_variables : goal.reorder_on-requires-clause-v_lt_most_variables
reorder_on-requires-clause-v_lt_most_variables g c =
    let letter = g.met.K.Decides.letter c.args.n c.args.cap c.args.x c.requires.known (eqb-true _ _ (sym c.if-is_letter.ensures)) in lt_of_lt_of_le letter.below c.requires.ready.few

pub returns-then-is_letter : goal.returns-then-is_letter
returns-then-is_letter g c =
    letter_made g.K.Decides.codec g.met.K.Decides.lawful _ _ _ _ _ c.args.x (g.met.K.Decides.letter c.args.n c.args.cap c.args.x c.requires.known (eqb-true _ _ (sym c.if-is_letter.ensures))) _ _ c.letter_order.ensures c.reorder_on.ensures

pub perform-requires-clause-placed : goal.perform-requires-clause-placed
perform-requires-clause-placed g c = change_placed g.K.Decides.codec g.met.K.Decides.lawful _ _ _ _ _ _ _ _ _ c.decide-change.ensures c.requires.ready.room

pub returns : goal.returns
returns g c = change_made g.K.Decides.codec g.met.K.Decides.lawful _ _ _ _ _ _ _ _ _ c.decide-change.ensures c.look-a.ensures c.look-b.ensures _ _ c.perform.ensures

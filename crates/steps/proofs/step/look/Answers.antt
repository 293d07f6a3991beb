-- `steps::step::look` meets its contract.
-- Assumes nothing.
use mathlib.Core.Path.{sym, ◌∙◌}
use native.Mathlib.Omega.{arith}
use Rattle.records.proofs.Records.{held_place}
use Rattle.steps.proofs.perform.Performing.{look_past, look_in}
use Rattle.steps.proofs.step.look.Goals as goal

pub returns-then-count-i : goal.returns-then-count-i
returns-then-count-i g c = c.NONE.ensures ∙ sym g.met.K.Decides.none_is ∙ look_past g.K.Decides.codec _ _ _ c.if-count-i.true

pub record_at-requires : goal.record_at-requires
record_at-requires g c = held_place g.K.Decides.codec g.met.K.Decides.lawful _ _ c.requires _ (omega (arith, c.if-count-i.false))

pub returns : goal.returns
returns g c = search (look_in, g.met.K.Decides.lawful)

-- `steps::perform::remove` meets its contract.
-- Assumes nothing.
use mathlib.Core.Path.{sym, ap, ◌∙◌}
use native.Mathlib.Omega.{arith}
use Rattle.records.specs.Records.{stored}
use Rattle.records.proofs.Records.{held_place}
use Rattle.steps.proofs.perform.Performing.{remove_done}
use Rattle.steps.proofs.perform.Placing.{still_place}
use Rattle.steps.proofs.perform.remove.Goals as goal

pub record_at-record-requires : goal.record_at-record-requires
record_at-record-requires g c = held_place g.K.Decides.codec g.met.K.Decides.lawful _ _ c.requires.held _ (omega arith)

pub put_record-requires : goal.put_record-requires
put_record-requires g c = held_place g.K.Decides.codec g.met.K.Decides.lawful _ _ c.requires.held _ c.requires.i_lt_count

pub put_record-requires-2 : goal.put_record-requires-2
put_record-requires-2 g c =
    still_place g.K.Decides.codec _ _ _ _ _ c.put_record.ensures
    (held_place g.K.Decides.codec g.met.K.Decides.lawful _ _ c.requires.held _ (omega (arith, c.requires.i_lt_count)))

pub returns : goal.returns
returns g c =
    remove_done g.K.Decides.codec g.met.K.Decides.lawful _ _ _ _ _ _ c.requires.held c.requires.i_lt_count c.record_at-record.ensures c.put_record.ensures
    (c.put_record-2.ensures ∙ ap (stored g.K.Decides.codec _ _) (c.NONE.ensures ∙ sym g.met.K.Decides.none_is))

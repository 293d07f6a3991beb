-- `steps::perform::drop_places` meets its contract.
-- Assumes nothing.
use Rattle.steps.proofs.perform.Performing.{removed_held, dropped_many, dropped_image}
use Rattle.steps.proofs.perform.drop_places.Goals as goal

pub remove-requires-2-clause-held : goal.remove-requires-2-clause-held
remove-requires-2-clause-held g c = removed_held g.K.Decides.codec g.met.K.Decides.lawful _ _ _ _ c.requires.held c.remove.ensures

pub returns-clause-value : goal.returns-clause-value
returns-clause-value g c = dropped_many g.K.Decides.codec g.met.K.Decides.lawful _ _ _ _

pub returns-clause-work_after : goal.returns-clause-work_after
returns-clause-work_after g c =
    dropped_image g.K.Decides.codec g.met.K.Decides.lawful _ _ _ _ c.requires.held _ _ c.larger-first.ensures c.smaller-second.ensures _ _ c.remove.ensures
    c.remove-2.ensures

-- `steps::perform::join_places` meets its contract.
-- Assumes nothing.
use Rattle.steps.proofs.perform.Placing.{join_place, join_held, join_many, join_image}
use Rattle.steps.proofs.perform.join_places.Goals as goal

pub put_record-requires : goal.put_record-requires
put_record-requires g c = search (join_place g.K.Decides.codec g.met.K.Decides.lawful)

pub remove-requires-clause-held : goal.remove-requires-clause-held
remove-requires-clause-held g c = search (join_held g.K.Decides.codec g.met.K.Decides.lawful)

pub returns-clause-value : goal.returns-clause-value
returns-clause-value g c = search (join_many g.K.Decides.codec g.met.K.Decides.lawful)

pub returns-clause-work_after : goal.returns-clause-work_after
returns-clause-work_after g c = search (join_image g.K.Decides.codec g.met.K.Decides.lawful)

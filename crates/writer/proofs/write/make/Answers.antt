-- `write::make` meets its contract.
-- Assumes nothing.
use Rattle.writer.proofs.Writing.{make_places, make_made}
use Rattle.writer.proofs.write.make.Goals as goal

pub step_for-x-requires : goal.step_for-x-requires
step_for-x-requires c = record { ready = c.requires.ready; i_lt_count = make_places _ _ _ _ _ c.requires.first }

pub returns : goal.returns
returns c =
    make_made _ _ _ _ _ c.requires.first c.requires.count_le_most_records _ c.step_for-x.ensures _ _ _ _ _ c.put_step.ensures c.do_pair.ensures.value c.do_pair.ensures.work_after

-- `steps::reorder::recoded` meets its contract.
-- Assumes nothing.
use Rattle.steps.proofs.reorder.ByMasks.{recoded_made}
use Rattle.steps.proofs.reorder.recoded.Goals as goal

pub returns : goal.returns
returns c =
    recoded_made _ _ _ _ c.word-x.ensures c.word-y.ensures _ c.of_word.ensures

-- `transform::vector_back` meets its contract.
-- Assumes nothing.
use Rattle.polarity.specs.Calls.{back_after}
use Rattle.polarity.proofs.transform.vector_back.Goals as goal

pub returns : goal.returns
unfolding back_after
returns c = record { result_value = c.transform.ensures.result_value; out_after = c.transform.ensures.out_after }

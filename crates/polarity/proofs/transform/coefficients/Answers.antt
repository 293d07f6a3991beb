-- `transform::coefficients` meets its contract.
-- Assumes nothing.
use Rattle.polarity.specs.Calls.{coefficients_after}
use Rattle.polarity.proofs.transform.coefficients.Goals as goal

pub returns : goal.returns
unfolding coefficients_after
returns c = record { result_value = c.transform.ensures.result_value; out_after = c.transform.ensures.out_after }

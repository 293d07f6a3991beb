-- `variables_below` meets its contract.
-- Assumes nothing.
use Rattle.bits.proofs.Bits.{shl_one}
use Rattle.cube.proofs.Codes.{all_below_lem, few_below}
use Rattle.cube.proofs.variables_below.Goals as goal

pub returns-then-n : goal.returns-then-n
returns-then-n c = all_below_lem _ c.if-n.true

pub returns : goal.returns
returns c = few_below _ _ c.if-n.false (shl_one _ _ c.if-n.false)

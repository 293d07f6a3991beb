-- `list_of` meets its contract.
-- Assumes nothing.
use native.Mathlib.Omega.{arith}
use Rattle.outputs.proofs.Calls.{list_5, list_all}
use Rattle.outputs.proofs.list_of.Goals as goal

pub returns-then-out-list : goal.returns-then-out-list
returns-then-out-list c = let both = list_5 _ _ _ c.at.ensures (omega arith) in record { result_value = both.0; out_after = both.1 }

pub returns : goal.returns
returns c = let both = list_all _ _ _ (omega arith) c.put_carrying.ensures.value c.put_carrying.ensures.out_after in record { result_value = both.0; out_after = both.1 }

-- `shares_of` meets its contract.
-- Assumes nothing.
use native.Mathlib.Omega.{arith}
use Rattle.outputs.proofs.Calls.{shares_21, shares_5, shares_all}
use Rattle.outputs.proofs.shares_of.Goals as goal

pub returns-then-k-ge-OUTPUTS : goal.returns-then-k-ge-OUTPUTS
returns-then-k-ge-OUTPUTS c = let both = shares_21 _ _ _ c.at.ensures (omega arith) in record { result_value = both.0; out_after = both.1 }

pub returns-then-out-count : goal.returns-then-out-count
returns-then-out-count c = let both = shares_5 _ _ _ (omega arith) c.at-then-out-count.ensures (omega arith) in record { result_value = both.0; out_after = both.1 }

pub returns : goal.returns
returns c = let both = shares_all _ _ _ (omega arith) (omega arith) c.put_shares.ensures in record { result_value = both.0; out_after = both.1 }

-- `numbers::put_two` meets its contract: its low byte stored, and its high byte after it.
-- Assumes nothing.
use native.Mathlib.Omega.{arith}
use Rattle.records.proofs.Widths.{stored_one, stored_parts}
use Rattle.records.proofs.numbers.put_two.Goals as goal

pub returns : goal.returns
returns c = stored_parts 1 1 (omega arith) _ _ _ _ _ (stored_one _ _ _) (stored_one _ _ _)

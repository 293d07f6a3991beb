-- `numbers::put_four` meets its contract: the low two bytes stored, and the high two after them, are the number's.
-- Assumes nothing.
use native.Mathlib.Omega.{arith}
use Rattle.records.proofs.Widths.{stored_parts}
use Rattle.records.proofs.numbers.put_four.Goals as goal

pub returns : goal.returns
returns c = search (stored_parts 2 2 (omega arith))

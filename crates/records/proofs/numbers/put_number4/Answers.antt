-- `numbers::put_number4` meets its contract: the low two bytes stored, and the high two after them, are the number's.
-- Assumes nothing.
use native.Mathlib.Omega.{arith}
use Rattle.records.proofs.Widths.{sets_end, stored_parts}
use Rattle.records.proofs.numbers.put_number4.Goals as goal

pub returns-then-b-p : goal.returns-then-b-p
returns-then-b-p c = search sets_end

pub returns : goal.returns
returns c = search (stored_parts 2 2 (omega arith))

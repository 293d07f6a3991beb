-- `numbers::put_number2` meets its contract: two stores in a row are the number's bytes stored.
-- Assumes nothing.
use native.Mathlib.Omega.{arith}
use Rattle.records.proofs.Widths.{sets_end, stored_parts}
use Rattle.records.proofs.numbers.put_number2.Goals as goal

pub returns-then-b-p : goal.returns-then-b-p
returns-then-b-p c = search sets_end

pub returns : goal.returns
returns c = search (stored_parts 1 1 (omega arith))

-- `numbers::put_byte` meets its contract.
-- Assumes nothing.
use Rattle.records.proofs.Widths.{sets_end, stored_one}
use borrow.Author.Rules.{rules}
use Rattle.records.proofs.numbers.put_byte.Goals as goal

pub returns-then-p-b : goal.returns-then-p-b
returns-then-p-b c = search stored_one

pub returns-else-p-b : goal.returns-else-p-b
returns-else-p-b c = search (rules, sets_end)

-- `number::number_at` meets its contract.
-- Assumes nothing.
use Rattle.text.proofs.Reading.{digits_none, no_digit, digits_stop, digits_above, digits_more, digits_end}
use borrow.Author.Rules.{rules}
use Rattle.text.proofs.number.number_at.Goals as goal

pub returns-then-not-is_digit : goal.returns-then-not-is_digit
returns-then-not-is_digit c = search (no_digit, rules)

pub loop-p-init : goal.loop-p-init
loop-p-init c = search (digits_none, rules)

pub returns-then-not-is_digit-2 : goal.returns-then-not-is_digit-2
returns-then-not-is_digit-2 c = search (digits_stop, rules)

pub returns-in_default : goal.returns-in_default
returns-in_default c = search (digits_above, rules)

pub loop-p-preserved : goal.loop-p-preserved
loop-p-preserved c = search (digits_more, rules)

pub returns : goal.returns
returns c = search (digits_end, rules)

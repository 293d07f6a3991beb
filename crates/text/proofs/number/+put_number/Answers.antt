-- `number::put_number` meets its contract: the digits before the last one, and the last one.
-- Assumes nothing.
use native.Mathlib.Omega.{arith}
use borrow.Author.Rules.{rules}
use Rattle.text.proofs.Laying.{kept}
use Rattle.text.proofs.Numbers.{number_small, number_large}
use Rattle.text.proofs.number.+put_number.Goals as goal

pub shape_of-out-then-x-lt10 : goal.shape_of-out-then-x-lt10
shape_of-out-then-x-lt10 t c = search (kept, rules)

pub returns-then-x-lt10 : goal.returns-then-x-lt10
returns-then-x-lt10 t c = number_small _ c.if-x-lt10.true c.put_byte.ensures

pub shape_of-out : goal.shape_of-out
shape_of-out t c = search (kept, rules)

pub returns : goal.returns
returns t c = number_large _ c.if-x-lt10.false c.put_number-next.ensures c.put_byte-2.ensures

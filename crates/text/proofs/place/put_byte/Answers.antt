-- `place::put_byte` meets its contract, with room and without.
-- Assumes nothing.
use Rattle.text.proofs.Laying.{byte_put, byte_lost}
use borrow.Author.Rules.{rules}
use Rattle.text.proofs.place.put_byte.Goals as goal

pub returns-then-at-out : goal.returns-then-at-out
returns-then-at-out c = search (byte_put, rules)

pub returns : goal.returns
returns c = search (byte_lost, rules)

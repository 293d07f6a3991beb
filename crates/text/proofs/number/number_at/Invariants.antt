-- `number::number_at` meets its contract. The invariant: what is read from here on is what is read of the whole.
-- Assumes nothing.
use Rattle.text.proofs.Reading.{Digits}
use Rattle.text.proofs.number.number_at.Given as goal

abbrev pub invariant-loop-p : goal.invariant-loop-p
invariant-loop-p l = Digits l.most l.text l.at l.p l.x

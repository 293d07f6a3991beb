-- `place::word_at` meets its contract. The invariant: what is read from here on is what is read of the whole.
-- Assumes nothing.
use Rattle.text.proofs.Reading.{Matching}
use Rattle.text.proofs.place.word_at.Given as goal

abbrev pub invariant-loop-letter : goal.invariant-loop-letter
invariant-loop-letter l = Matching l.number l.word l.text l.at l.p l.letter-index

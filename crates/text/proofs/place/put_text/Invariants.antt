-- `place::put_text` meets its contract. The invariant: the bytes passed are laid.
-- Assumes nothing.
use Rattle.text.proofs.Laying.{Copied}
use Rattle.text.proofs.place.put_text.Given as goal

abbrev pub invariant-loop-b : goal.invariant-loop-b
invariant-loop-b l = Copied l.initial.out l.at l.text l.p l.out l.b-index

-- `put_outputs` meets its contract. The invariant: the characters of the outputs passed are laid.
-- Assumes nothing.
use Rattle.pla_print.proofs.Printing.{Marked}
use Rattle.pla_print.proofs.put_outputs.Given as goal

abbrev pub invariant-loop-k : goal.invariant-loop-k
invariant-loop-k l = Marked l.m l.outputs l.initial.out l.at l.p l.out l.k

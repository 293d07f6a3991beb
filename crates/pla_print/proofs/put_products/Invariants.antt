-- `put_products` meets its contract. The invariant: the lines of the records passed are laid.
-- Assumes nothing.
use Rattle.pla_print.proofs.Printing.{Listed}
use Rattle.pla_print.proofs.put_products.Given as goal

abbrev pub invariant-loop-i : goal.invariant-loop-i
invariant-loop-i l = Listed l.n l.m l.list l.initial.out l.at l.p l.out l.i

-- `print::print` meets its contract. The invariant: the first k lines are laid.
-- Assumes nothing.
use Rattle.script_lines.proofs.Printing.{Printed}
use Rattle.script_lines.proofs.print.print.Given as goal

abbrev pub invariant-loop-k : goal.invariant-loop-k
invariant-loop-k l = Printed l.script l.initial.out l.p l.out l.k

-- `print::print` meets its contract. The invariant: the first k lines are laid.
-- Assumes nothing.
use Rattle.script_lines.proofs.Printing.{printed_none, printed_more, printed_end, printed_kept}
use borrow.Author.Rules.{rules}
use Rattle.script_lines.proofs.print.print.Goals as goal

pub loop-k-init : goal.loop-k-init
loop-k-init c = search (printed_none, rules)

pub loop-k-preserved : goal.loop-k-preserved
loop-k-preserved c = search (printed_more, rules)

pub shape_of-out : goal.shape_of-out
shape_of-out c = search (printed_kept, rules)

pub returns : goal.returns
returns c = search (printed_end, rules)

-- `selector_by` is safe: a line that gives a number gives one that a list can have.
-- Assumes nothing.
use Rattle.program.proofs.Lines.{variables_few}
use borrow.Author.Rules.{rules}
use Rattle.selector_files.proofs.selector_by.Goals as goal

pub settle-requires : goal.settle-requires
settle-requires c = search (variables_few, rules)

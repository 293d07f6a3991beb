-- `settle_by` is safe: a line that gives a number gives one that a list can have.
-- Assumes nothing.
use Rattle.program.proofs.Lines.{variables_few}
use borrow.Author.Rules.{rules}
use Rattle.map_files.proofs.settle_by.Goals as goal

pub settle_files-requires : goal.settle_files-requires
settle_files-requires c = search (variables_few, rules)

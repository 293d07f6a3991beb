-- `line::variables_in` meets its contract: a line of one or two digits for a number of variables that a list can have.
-- Assumes nothing.
use Rattle.program.specs.Lines.{variables_line}
use Rattle.program.proofs.line.variables_in.Goals as goal

pub returns : goal.returns
unfolding variables_line
returns c = c.number_in.ensures

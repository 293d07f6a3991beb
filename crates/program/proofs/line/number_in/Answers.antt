-- `line::number_in` meets its contract: one law for each of its answers.
-- Assumes nothing.
use native.Mathlib.Omega.{arith}
use Rattle.program.proofs.Lines.{line_long, line_wrong, line_read, line_part}
use borrow.Author.Rules.{rules}
use Rattle.program.proofs.line.number_in.Goals as goal

pub returns-then-digits-line : goal.returns-then-digits-line
returns-then-digits-line c = line_long _ _ _ (omega (arith, c.if-digits-line.true))

pub returns-then-read-line : goal.returns-then-read-line
returns-then-read-line c = line_read _ _ _ (omega (arith, c.if-digits-line.false)) c.number_at.ensures c.in-Ok.is (omega (arith, c.if-read-line.true))

pub returns-in-Err : goal.returns-in-Err
returns-in-Err c = search (line_wrong, rules)

pub returns-else-read-line : goal.returns-else-read-line
returns-else-read-line c = search (line_part, rules)

-- `turn` meets its contract.
-- Assumes nothing.
use borrow.Author.Rules.{rules}
use Rattle.cksum.proofs.Remainders.{turn_over, turn_up}
use Rattle.cksum.proofs.turn.Goals as goal

pub returns-then-c-ge-HIGHEST : goal.returns-then-c-ge-HIGHEST
returns-then-c-ge-HIGHEST c = turn_over c.args.c (search rules)

pub returns : goal.returns
returns c = turn_up c.args.c (search rules)

-- `read::read` meets its contract: a text that is too long, and the lines of one that is not.
-- Assumes nothing.
use Rattle.script_lines.proofs.Gathered.{long_told, long_cleared, clear_now, whole_told, whole_held}
use lib.ListN.{length}
use borrow.Author.Rules.{rules}
use Rattle.script_lines.proofs.read.read.Goals as goal

pub returns-then-text-gt-MOST_TEXT : goal.returns-then-text-gt-MOST_TEXT
returns-then-text-gt-MOST_TEXT c = record { result_value = search (long_told, long_cleared, rules); out_after = search (long_told, long_cleared, rules) }

pub read_lines-requires : goal.read_lines-requires
read_lines-requires c = clear_now (length c.args.out.now) c.clear.ensures

pub returns : goal.returns
returns c = record { result_value = search (whole_told, whole_held, rules); out_after = search (whole_told, whole_held, rules) }

-- `files::put_path` meets its contract: a path that has room ends in the buffer, and one that has none does not.
-- Assumes nothing.
use Rattle.program.proofs.Counts.{counted}
use Rattle.selector_files.proofs.Paths.{path_lost, path_text}
use borrow.Author.Rules.{rules}
use Rattle.selector_files.proofs.files.put_path.Goals as goal

pub returns-then-path-end : goal.returns-then-path-end
returns-then-path-end c = record { prefix_len = search (counted, path_lost, rules); path_after = search (counted, path_lost, rules) }

pub returns : goal.returns
returns c = record { prefix_len = search (counted, path_text, rules); path_after = search (counted, path_text, rules) }

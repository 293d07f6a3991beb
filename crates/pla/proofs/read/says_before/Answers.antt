-- `read::says_before` meets its contract: nothing, a product, and a name.
-- Assumes nothing.
use borrow.Author.Rules.{rules}
use Rattle.lines.proofs.Words.{word_end_within}
use Rattle.pla.proofs.Saying.{says_nothing, says_product, says_named, says_unknown}
use Rattle.pla.proofs.read.says_before.Goals as goal

pub returns-then-from-c : goal.returns-then-from-c
returns-then-from-c c = search (says_nothing, rules)

pub returns-then-byte_at-ne46 : goal.returns-then-byte_at-ne46
returns-then-byte_at-ne46 c = search (says_product, rules)

pub slice_bounds-of-end : goal.slice_bounds-of-end
slice_bounds-of-end c = search (word_end_within, rules)

pub slice_bounds-says-count : goal.slice_bounds-says-count
slice_bounds-says-count c = search (word_end_within, rules)

pub slice_bounds-says-start : goal.slice_bounds-says-start
slice_bounds-says-start c = search (word_end_within, rules)

pub returns-in-Some : goal.returns-in-Some
returns-in-Some c = search (says_named, rules)

pub returns-in-None : goal.returns-in-None
returns-in-None c = search (says_unknown, rules)

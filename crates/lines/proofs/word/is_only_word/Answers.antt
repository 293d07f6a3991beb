-- `word::is_only_word` meets its contract: another word, and the word with what stands after it.
-- Assumes nothing.
use Rattle.lines.proofs.Words.{word_end_within, other_word, word_alone}
use borrow.Author.Rules.{rules}
use Rattle.lines.proofs.word.is_only_word.Goals as goal

pub slice_bounds-same-end : goal.slice_bounds-same-end
slice_bounds-same-end c = word_end_within c.args.line.now c.past_blanks-from.ensures c.past_word-end.ensures

pub returns-else-same : goal.returns-else-same
returns-else-same c = search (other_word, rules)

pub slice_bounds-is_blank_from-count : goal.slice_bounds-is_blank_from-count
slice_bounds-is_blank_from-count c = search (word_end_within, rules)

pub slice_bounds-is_blank_from-start : goal.slice_bounds-is_blank_from-start
slice_bounds-is_blank_from-start c = word_end_within c.args.line.now c.past_blanks-from.ensures c.past_word-end.ensures

pub returns-then-same : goal.returns-then-same
returns-then-same c = search (word_alone, rules)

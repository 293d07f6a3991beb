-- `group::own_group` meets its contract.
-- Assumes nothing.
use borrow.Author.Rules.{rules}
use Rattle.index.proofs.group.Grouping.{own_entry, own_start, own_above, own_counted, own_order}
use Rattle.index.proofs.group.own_group.Goals as goal

pub returns-then-bad-count : goal.returns-then-bad-count
returns-then-bad-count c = search (own_entry, rules)

pub returns-then-off-ne-GROUPS : goal.returns-then-off-ne-GROUPS
returns-then-off-ne-GROUPS c = search (own_start, rules)

pub returns-then-number-ge-GROUPS : goal.returns-then-number-ge-GROUPS
returns-then-number-ge-GROUPS c = search (own_above, rules)

pub overflow_sub-result : goal.overflow_sub-result
overflow_sub-result c = search (own_order, rules)

pub returns : goal.returns
returns c = search (own_counted, rules)

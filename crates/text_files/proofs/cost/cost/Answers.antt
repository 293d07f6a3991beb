-- `cost::cost` meets its contract, by what is counted of the list.
-- Assumes nothing.
use native.Mathlib.Omega.{arith}
use Rattle.text_files.proofs.Costs.{few, not_few, cost_less, cost_whole}
use Rattle.text_files.proofs.cost.cost.Goals as goal

pub returns-then-list-gt-MOST_RECORDS : goal.returns-then-list-gt-MOST_RECORDS
returns-then-list-gt-MOST_RECORDS c = λ h. not_few _ c.if-list-gt-MOST_RECORDS.true h

pub count_list-counts-requires : goal.count_list-counts-requires
count_list-counts-requires c = few _ c.if-list-gt-MOST_RECORDS.false

pub returns-then-products-eq0 : goal.returns-then-products-eq0
returns-then-products-eq0 c = λ h. omega (arith, c.if-products-eq0.true, cost_less _ c.count_list-counts.ensures c.if-counts.true)

pub returns-then-counts : goal.returns-then-counts
returns-then-counts c = λ h. omega (arith, c.if-products-eq0.false, cost_less _ c.count_list-counts.ensures c.if-counts.true)

pub returns : goal.returns
returns c = λ h. omega (arith, cost_whole _ c.count_list-counts.ensures c.if-counts.false)

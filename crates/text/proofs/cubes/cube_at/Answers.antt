-- `cubes::cube_at` meets its contract.
-- Assumes nothing.
use Rattle.text.proofs.Reading.{coding_none, codes_other, codes_more, codes_end}
use borrow.Author.Rules.{rules}
use Rattle.text.proofs.cubes.cube_at.Goals as goal

pub loop-k-init : goal.loop-k-init
loop-k-init c = search (coding_none, rules)

pub returns-in_default : goal.returns-in_default
returns-in_default c = search (codes_other, rules)

pub loop-k-preserved : goal.loop-k-preserved
loop-k-preserved c = search (codes_more, rules)

pub returns : goal.returns
returns c = search (codes_end, rules)

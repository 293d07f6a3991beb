-- `cubes::put_cube` meets its contract. The invariant: the codes of the variables passed are laid; the measure is how many are left.
-- Assumes nothing.
use Rattle.text.proofs.Laying.{spelt_none, spelt_more, spelt_end, spelt_kept}
use borrow.Author.Rules.{rules}
use Rattle.text.proofs.cubes.put_cube.Goals as goal

pub loop-k-init : goal.loop-k-init
loop-k-init c = search (spelt_none, rules)

pub loop-k-preserved : goal.loop-k-preserved
loop-k-preserved c = spelt_more c.loop-k.invariant c.loop-k-test.true c.code_at.ensures c.glyph.ensures c.put_byte-p.ensures

pub shape_of-out : goal.shape_of-out
shape_of-out c = search (spelt_kept, rules)

pub returns : goal.returns
returns c = search (spelt_end, rules)

-- `find::far_to` meets its contract: the loop keeps `NoneTo`.
-- Assumes nothing.
use native.Mathlib.Omega.{arith}
use borrow.Author.Rules.{rules}
use Rattle.bits.proofs.First.{none_start}
use Rattle.cube.specs.Checking.{stride}
use Rattle.writer.proofs.Searching.{far_more}
use Rattle.writer.proofs.find.far_to.Goals as goal

pub loop-i-init : goal.loop-i-init
loop-i-init c = none_start _ _ _ c.requires.0

pub overflow_sub-end : goal.overflow_sub-end
overflow_sub-end c = c.loop-i.invariant.most

pub stride_far-requires : goal.stride_far-requires
stride_far-requires c = omega (arith, c.loop-i-test.true, c.loop-i.invariant.most, c.requires.1)

pub overflow_add-i : goal.overflow_add-i
overflow_add-i c = omega (arith, c.loop-i-test.true, c.loop-i.invariant.most)

pub loop-i-smaller : goal.loop-i-smaller
loop-i-smaller c = omega (arith, c.loop-i-test.true, c.loop-i.invariant.most)

pub loop-i-preserved : goal.loop-i-preserved
loop-i-preserved c =
    far_more _ _ _ _ _ stride c.loop-i.invariant (omega (arith, c.loop-i-test.true, c.loop-i.invariant.most)) (search rules)

pub returns : goal.returns
returns c = c.loop-i.invariant

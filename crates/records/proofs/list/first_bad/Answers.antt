-- `list::first_bad` meets its contract: the loop keeps `Looking`, and goes on by strides.
-- Assumes nothing.
use mathlib.Core.Path.{◌∙◌}
use native.Mathlib.Omega.{arith}
use lib.Dec.{lit<}
use Rattle.records.specs.Kinds.{stride}
use Rattle.records.proofs.Looking.{found_none}
use Rattle.records.proofs.Striding.{stride_found, stride_next}
use Rattle.records.proofs.list.first_bad.Goals as goal

pub loop-i-preserved : goal.loop-i-preserved
loop-i-preserved g c =
    stride_next g.K.Kind.codec (g.K.Kind.good c.args.n) _ _ c.loop-i.invariant (omega (arith, c.count-count.ensures)) stride (lit< tt) _ c.good_from-good.ensures c.if-good-eq0.false

pub overflow_add-i : goal.overflow_add-i
overflow_add-i g c =
    let next = stride_next g.K.Kind.codec (g.K.Kind.good c.args.n) _ _ c.loop-i.invariant (omega (arith, c.count-count.ensures)) stride (lit< tt) _ c.good_from-good.ensures c.if-good-eq0.false in
    omega arith

pub returns-then-count-i : goal.returns-then-count-i
returns-then-count-i g c = c.count-count.ensures ∙ found_none g.K.Kind.codec (g.K.Kind.good c.args.n) _ _ c.loop-i.invariant (omega (arith, c.count-count.ensures))

pub returns-then-good-eq0 : goal.returns-then-good-eq0
returns-then-good-eq0 g c =
    stride_found g.K.Kind.codec (g.K.Kind.good c.args.n) _ _ c.loop-i.invariant (omega (arith, c.count-count.ensures)) stride (lit< tt) _ c.good_from-good.ensures c.if-good-eq0.true

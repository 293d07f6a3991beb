-- `vector::first_bad` meets its contract: the loop keeps `Looking`, and goes on by strides.
-- Assumes nothing.
use native.Mathlib.Omega.{arith}
use Rattle.records.proofs.Looking.{looking_none}
use Rattle.polarity.proofs.vector.Tests.{none_bad, bad_here, bits_on, bits_within}
use Rattle.polarity.proofs.vector.first_bad.Goals as goal

pub loop-i-init : goal.loop-i-init
loop-i-init c = looking_none _ _ _

pub overflow_add-i : goal.overflow_add-i
overflow_add-i c =
    omega (arith, bits_within _ _ c.loop-i.invariant c.if-bytes-i.false _ c.good_from-good.ensures c.if-good-eq0.false)

pub loop-i-smaller : goal.loop-i-smaller
loop-i-smaller c =
    omega (arith, bits_within _ _ c.loop-i.invariant c.if-bytes-i.false _ c.good_from-good.ensures c.if-good-eq0.false)

pub loop-i-preserved : goal.loop-i-preserved
loop-i-preserved c =
    bits_on _ _ c.loop-i.invariant c.if-bytes-i.false _ c.good_from-good.ensures c.if-good-eq0.false

pub returns-then-bytes-i : goal.returns-then-bytes-i
returns-then-bytes-i c = none_bad _ _ c.loop-i.invariant c.if-bytes-i.true

pub returns-then-good-eq0 : goal.returns-then-good-eq0
returns-then-good-eq0 c =
    bad_here _ _ c.loop-i.invariant c.if-bytes-i.false _ c.good_from-good.ensures c.if-good-eq0.true

-- `candidates::count_list` meets its contract: the loop keeps `Counting`.
-- Assumes nothing.
use mathlib.Core.Path.{refl}
use native.Mathlib.Omega.{arith}
use Rattle.bits.proofs.Bools.{one_lt}
use Rattle.records.proofs.Records.{length_list}
use Rattle.records.proofs.Counting.{counting_none, counting_next}
use Rattle.cube.specs.Lists.{cubes}
use Rattle.cube.specs.Cubes.{bare}
use Rattle.settling.proofs.candidates.Choosing.{list_counted}
use Rattle.settling.proofs.candidates.count_list.Goals as goal

pub loop-i-init : goal.loop-i-init
loop-i-init c = search counting_none

pub overflow_add-bare : goal.overflow_add-bare
overflow_add-bare c =
    omega (arith, one_lt c.bare_at.result, length_list cubes c.args.list.now, c.requires)

pub loop-i-preserved : goal.loop-i-preserved
loop-i-preserved c = counting_next cubes bare _ _ _ c.loop-i.invariant c.loop-i-test.true _ refl _ c.bare_at.ensures

pub overflow_cast-products : goal.overflow_cast-products
overflow_cast-products c = omega (arith, length_list cubes c.args.list.now, c.requires)

pub returns : goal.returns
returns c = search list_counted

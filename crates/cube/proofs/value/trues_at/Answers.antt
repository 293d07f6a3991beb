-- `value::trues_at` meets its contract: the loop keeps `Counting`.
-- Assumes nothing.
use mathlib.Core.Path.{refl}
use Rattle.records.proofs.Counting.{counting_next, counted_all}
use Rattle.cube.specs.Cubes.{holds}
use Rattle.cube.specs.Lists.{cubes, cubes_of, trues}
use Rattle.cube.proofs.Lists.{mask_at}
use Rattle.cube.proofs.value.trues_at.Goals as goal

pub loop-i-preserved : goal.loop-i-preserved
loop-i-preserved c =
    let true_there = mask_at c.args.n (cubes_of c.args.list.now) c.args.a c.loop-i.i c.requires.all c.requires.a_bound
    _ refl c.true_at.result c.true_at.ensures.fixed in
    counting_next cubes (λ y. holds c.args.n y c.args.a) _ _ _ c.loop-i.invariant c.loop-i-test.true
    _ refl c.true_at.result true_there

pub returns : goal.returns
unfolding trues
returns c = search counted_all

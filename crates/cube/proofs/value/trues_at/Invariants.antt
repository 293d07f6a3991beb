-- `value::trues_at` meets its contract: the loop keeps `Counting`.
-- Assumes nothing.
use Rattle.records.proofs.Counting.{Counting}
use Rattle.cube.specs.Cubes.{holds}
use Rattle.cube.specs.Lists.{cubes}
use Rattle.cube.proofs.value.trues_at.Given as goal

abbrev pub invariant-loop-i : goal.invariant-loop-i
invariant-loop-i l = Counting cubes (λ c. holds l.n c l.a) l.list l.t l.i

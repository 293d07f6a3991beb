-- The index after a step.
-- Assumes nothing.
use mathlib.Core.Path.{subst}
use Prim.Native.Nat.{ℕ}
use native.Mathlib.Omega.{arith}
use lib.ListN.{length}
use Rattle.index.specs.Counting.{ClearBehind}
use Rattle.indexed.proofs.Keeping.{carried_here, index_kept}
use Rattle.indexed.proofs.IndexingWatchCubes.after_step.Goals as goal

pub rebuild-starts-requires : goal.rebuild-starts-requires
rebuild-starts-requires c =
    let a = c.args in
    let k = c.requires.kept.2 in
    let before = c.requires.kept.1 in
    record {
      count_in_bounds = (carried_here c.requires.list.0 a.count a._cap a.work.now c.requires.list.1, omega (arith, k.few, k.most, before, c.requires.few));
      count_in_bounds_2 = omega (arith, k.few, k.fits, before, c.requires.few);
      in_bounds = (omega (arith, k.few, k.fits, before), subst (λ (m : ℕ). ClearBehind m a.beside.now) before k.behind);
    }

pub returns-clause-kept : goal.returns-clause-kept
returns-clause-kept c =
    let a = c.args in
    let k = c.requires.kept.2 in
    index_kept c.requires.list.0 a.count a._cap a.work.now c.requires.list.1 (length a.beside.now) (omega (arith, k.few, c.requires.kept.1, c.requires.few)) k.most k.fits _
    c.rebuild-starts.ensures.index_after

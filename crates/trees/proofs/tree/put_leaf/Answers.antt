-- `tree::put_leaf` meets its contract.
-- Assumes nothing.
use mathlib.Core.Path.{refl}
use native.Mathlib.Omega.{arith}
use borrow.Author.Tests.{eq-eqb, ne_eqb}
use Rattle.records.specs.Records.{written}
use Rattle.trees.specs.Trees.{leaf_list}
use Rattle.trees.proofs.tree.put_leaf.Goals as goal

pub returns-then-w-eq0 : goal.returns-then-w-eq0
unfolding written leaf_list
returns-then-w-eq0 c = record { value = simp (eq-eqb _ _ c.if-w-eq0.true) (omega arith); out_after = simp (eq-eqb _ _ c.if-w-eq0.true) refl }

pub returns : goal.returns
unfolding written leaf_list
returns c = record { value = simp (ne_eqb _ _ c.if-w-eq0.false) (omega arith); out_after = simp (ne_eqb _ _ c.if-w-eq0.false) c.put_cube.ensures }

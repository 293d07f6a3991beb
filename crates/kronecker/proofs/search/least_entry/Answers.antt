-- `search::least_entry` meets its contract. The loop's invariant: of the entries passed, the least so far and its place.
-- Assumes nothing.
use mathlib.Core.Path.{sym, subst₂}
use Prim.Native.Nat.{◌+◌}
use native.Mathlib.Omega.{arith}
use Rattle.kronecker.proofs.search.Ranges.{Passed, passed_one, passed_less, passed_kept, passed_all}
use Rattle.kronecker.proofs.search.least_entry.Goals as goal
use Rattle.kronecker.proofs.search.least_entry.Goals.{then-entry-least, else-entry-least}

pub loop-i-init : goal.loop-i-init
loop-i-init c = (omega arith, passed_one c.args.table.now)

pub loop-i-preserved : goal.loop-i-preserved
loop-i-preserved c =
    let t = c.loop-i in
    let l = c.args.table.now in
    let i = t.i in (
      omega arith,
      elim c.if-entry-least.branch [
        | then-entry-least x ↦ subst₂ (Passed l (i + 1)) (sym x.least-is) (sym x.choice-is) (passed_less l i t.least t.choice t.invariant.1 x.if-entry-least.true)
        | else-entry-least x ↦ subst₂ (Passed l (i + 1)) (sym x.least-is) (sym x.choice-is) (passed_kept l i t.least t.choice t.invariant.1 (omega (arith, x.if-entry-least.false)))
      ],
    )

pub overflow_cast-products : goal.overflow_cast-products
overflow_cast-products c = let t = c.loop-i in omega (arith, t.invariant.1.cost_is, c.type_inv.table t.choice)

pub returns : goal.returns
returns c = let t = c.loop-i in passed_all _ _ _ _ t.invariant.1 (omega (arith, c.loop-i-test.false))

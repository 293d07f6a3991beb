-- `table::join_parts` meets its contract: the loop keeps `Joined`.
-- Assumes nothing.
use mathlib.Core.Path.{sym, ◌∙◌}
use Prim.Native.Nat.{◌+◌, ◌≤◌}
use native.Mathlib.Omega.{arith}
use lib.ListN.{get_or, length-set}
use Rattle.kronecker.proofs.table.Joining.{joined_none, joined_next, joined_more, joined_all}
use Rattle.kronecker.proofs.table.join_parts.Goals as goal
use Rattle.kronecker.proofs.table.join_parts.Goals.{After-slice_known-in-loop-i-2-1}

pub loop-i-init : goal.loop-i-init
loop-i-init c = joined_none _ _ c.requires.0

-- the three bytes of a turn: no sum of two overflows
few : (c : After-slice_known-in-loop-i-2-1)
    → let j = c.args.part + c.loop-i.i in
    (get_or c.loop-i.table c.loop-i.i 0 ≤ 127) × (get_or c.loop-i.table j 0 ≤ 127) × (get_or c.loop-i.table (j + c.args.part) 0 ≤ 127)
few c =
    joined_next _ _ _ _ c.loop-i.invariant 127 c.requires.1 c.loop-i-test.true _ (omega arith)

pub overflow_add-table : goal.overflow_add-table
overflow_add-table c = omega (arith, few c)

pub overflow_add-table-in-loop-i : goal.overflow_add-table-in-loop-i
overflow_add-table-in-loop-i c = omega (arith, few c)

pub bounds-table-j-in-loop-i : goal.bounds-table-j-in-loop-i
bounds-table-j-in-loop-i c = simp length-set (omega arith)

pub overflow_add-table-in-loop-i-2 : goal.overflow_add-table-in-loop-i-2
overflow_add-table-in-loop-i-2 c = omega (arith, few c)

pub bounds-table-k-in-loop-i : goal.bounds-table-k-in-loop-i
bounds-table-k-in-loop-i c = simp length-set (omega arith)

pub loop-i-preserved : goal.loop-i-preserved
loop-i-preserved c = joined_more _ _ _ _ c.loop-i.invariant c.loop-i-test.true _ (omega arith)

pub shape_of-table : goal.shape_of-table
shape_of-table c = c.loop-i.invariant.long ∙ sym c.requires.0

pub returns : goal.returns
returns c = joined_all _ _ _ _ c.loop-i.invariant c.loop-i-test.false

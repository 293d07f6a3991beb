-- `write::write_checked` meets its contract: the filled work buffer is ready, and no row is marked.
-- Assumes nothing.
use Prim.Native.Nat.{ℕ, ◌<◌}
use native.Mathlib.Omega.{arith}
use lib.ListN.{get_or}
use Rattle.cube.specs.Lists.{most_records}
use Rattle.writer.proofs.Calls.{unmarked, checked_list, checked_ready, checked_written}
use Rattle.writer.proofs.write.write_checked.Goals as goal
use Rattle.writer.proofs.write.write_checked.Goals.{After-marks-1}

small : (c : After-marks-1) (i : ℕ) → get_or c.args.list.now i 0 < 256
small c i = omega (arith, c.type_inv.list i)

pub write_steps-requires : goal.write_steps-requires
write_steps-requires c =
    let few = (checked_list _ _ c.args.work.now c.requires.accepts c.requires.list_len_bound (small c) _ c.fill.ensures).short in record { ready = checked_ready _ _ c.args.work.now c.requires.accepts c.requires.list_len_bound (small c) _ c.fill.ensures; first_le_most_records = few; unmarked = unmarked _ most_records few }

pub returns : goal.returns
returns c =
    checked_written _ _ c.args.work.now c.requires.accepts c.requires.list_len_bound (small (goal.at.returns c).After-marks-1) _ c.fill.ensures _ _ _ _ c.write_steps.ensures

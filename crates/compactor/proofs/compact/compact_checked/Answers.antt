-- `compact::compact_checked` meets its contract: the steps that are kept are those that are left.
-- Assumes nothing.
use native.Mathlib.Omega.{arith}
use Rattle.compactor.proofs.Calls.{kept_inside, kept_room, kept_written}
use Rattle.compactor.proofs.compact.compact_checked.Goals as goal

pub keep_steps-top-requires : goal.keep_steps-top-requires
keep_steps-top-requires c = record { faithful = c.requires.faithful; script_len_bound = (c.requires.script_len_bound.0, c.requires.script_len_bound.0, omega (arith, c.requires.script_len_bound.1)) }

pub put_kept-requires : goal.put_kept-requires
put_kept-requires c = record { top_in_bounds = (c.keep_steps-top.ensures.room, kept_room _ c.requires.faithful _ _ _ c.keep_steps-top.ensures c.args.out.now c.requires.script_len_bound.2); all = kept_inside _ c.requires.faithful _ _ _ c.keep_steps-top.ensures }

pub returns : goal.returns
returns c =
    kept_written _ c.requires.faithful _ _ _ c.keep_steps-top.ensures _ _ c.put_kept.ensures

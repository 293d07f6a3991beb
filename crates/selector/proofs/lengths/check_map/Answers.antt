-- `lengths::check_map` meets its contract.
-- Assumes nothing.
use Prim.Native.Nat.{◌≤◌, ◌<◌}
use lib.ListN.{length}
use Rattle.std.proofs.Common.{rules}
use Rattle.selector.proofs.Checks.{map_none, map_many, map_wrong, map_count}
use Rattle.selector.proofs.lengths.check_map.Goals as goal

pub returns-then-is_empty : goal.returns-then-is_empty
returns-then-is_empty c = let none : length c.args.lengths.now < 1 = search rules in map_none _ _ _ c.at.ensures none

pub returns-then-lengths-gt-MOST_LISTS : goal.returns-then-lengths-gt-MOST_LISTS
returns-then-lengths-gt-MOST_LISTS c =
    let some : 1 ≤ length c.args.lengths.now = search rules in
    map_many _ _ some _ c.at-then-lengths-gt-MOST_LISTS.ensures c.if-lengths-gt-MOST_LISTS.true

pub returns-then-add_up : goal.returns-then-add_up
returns-then-add_up c =
    let some : 1 ≤ length c.args.lengths.now = search rules in
    map_count _ _ some c.if-lengths-gt-MOST_LISTS.false _ c.add_up.ensures c.if-add_up.true

pub returns : goal.returns
returns c =
    let some : 1 ≤ length c.args.lengths.now = search rules in
    map_wrong _ _ some c.if-lengths-gt-MOST_LISTS.false _ c.add_up.ensures _ c.at-2.ensures c.if-add_up.false

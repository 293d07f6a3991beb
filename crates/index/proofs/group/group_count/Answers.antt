-- `group::group_count` meets its contract.
-- Assumes nothing.
use mathlib.Core.Path.{◌≡◌, sym}
use mathlib.Core.List.{[], ◌∷◌}
use native.Mathlib.Omega.{arith}
use Rattle.records.proofs.Answers.{handed_on}
use Rattle.records.specs.Answers.{accepted}
use Rattle.cube.specs.Lists.{cubes, most_variables}
use Rattle.cube.specs.Calls.{check_list}
use Rattle.cube.proofs.Lists.{count_is, count_most}
use Rattle.index.proofs.group.Grouping.{group_refused, group_short, group_own}
use Rattle.index.proofs.group.group_count.Goals as goal
use Rattle.index.proofs.group.group_count.Goals.{In_ok-count}

-- the count that the check answers
told : (c : In_ok-count) → check_list most_variables c.args.n c.args.list.now ≡ accepted (c.in_ok-count.count ∷ [])
told c = sym c.in_ok-count.ensures

pub overflow_mul-count : goal.overflow_mul-count
overflow_mul-count c = omega (arith, count_most cubes _ _ _ _ (told c))

pub returns-then-index-count : goal.returns-then-index-count
returns-then-index-count c = group_short _ _ _ _ _ _ (told (goal.at.returns-then-index-count c).In_ok-count) _ c.at.ensures c.if-index-count.true

pub own_group-requires : goal.own_group-requires
own_group-requires c = let e = told (goal.at.own_group-requires c).In_ok-count in record { count_value = (count_is cubes _ _ _ _ e, count_most cubes _ _ _ _ e); count_in_bounds = c.if-index-count.false }

pub returns-in_err-count : goal.returns-in_err-count
returns-in_err-count c = handed_on _ _ _ _ c.from_residual.ensures (group_refused _ _ _ _ _ _ (sym c.in_err-count.ensures))

pub returns : goal.returns
returns c = group_own _ _ _ _ _ _ (told (goal.at.returns c).In_ok-count) c.if-index-count.false _ c.own_group.ensures

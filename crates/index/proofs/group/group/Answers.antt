-- `group::group` meets its contract.
-- Assumes nothing.
use mathlib.Core.Path.{◌≡◌, sym, ap, ◌∙◌}
use mathlib.Core.List.{[], ◌∷◌}
use native.Mathlib.Omega.{arith}
use lib.ListN.{length}
use borrow.Author.Rules.{rules}
use Rattle.records.specs.Answers.{counted}
use Rattle.index.specs.Index.{group_count}
use Rattle.index.proofs.Accepted.{AcceptedGroup, group_accepts, part_fits}
use Rattle.index.proofs.group.Grouping.{part_refused, part_accepted}
use Rattle.index.proofs.group.group.Goals as goal
use Rattle.index.proofs.group.group.Goals.{In-Ok}

pub returns-in-Err : goal.returns-in-Err
returns-in-Err c = part_refused _ _ _ _ _ _ (sym (ap counted c.in-Err.is) ∙ c.group_count.ensures) _ c.part.ensures

-- an array has its length, and an accepted call a list's own index
long : (c : In-Ok) → length c.args.starts ≡ group_count
long c = search rules

is_own : (c : In-Ok) → AcceptedGroup c.args.n c.args.list.now c.args.index.now c.args.starts c.args.number (c.in-Ok.size ∷ [])
is_own c = group_accepts _ _ _ _ _ (long c) _ (sym c.group_count.ensures ∙ ap counted c.in-Ok.is)

pub offset_bounds-starts-number : goal.offset_bounds-starts-number
offset_bounds-starts-number c = omega (arith, (group_accepts _ _ _ _ _ (search rules) _ (sym c.group_count.ensures ∙ ap counted c.in-Ok.is)).below)

pub bounds-starts-number : goal.bounds-starts-number
bounds-starts-number c = omega (arith, (group_accepts _ _ _ _ _ (search rules) _ (sym c.group_count.ensures ∙ ap counted c.in-Ok.is)).below)

pub part-requires-in-Ok : goal.part-requires-in-Ok
part-requires-in-Ok c = part_fits _ _ _ _ _ _ (is_own c)

pub returns-in-Ok : goal.returns-in-Ok
returns-in-Ok c = part_accepted _ _ _ _ _ _ (sym (ap counted c.in-Ok.is) ∙ c.group_count.ensures) _ c.part-in-Ok.ensures

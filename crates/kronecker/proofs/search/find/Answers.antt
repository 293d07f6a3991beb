-- `search::find` meets its contract.
-- Assumes nothing.
use mathlib.Core.Path.{sym, ◌∙◌}
use native.Mathlib.Omega.{arith}
use lib.Seq.{length-take-le}
use Rattle.kronecker.proofs.search.Ranges.{power_most}
use Rattle.kronecker.proofs.search.Whole.{all_covers, found_all, front_is, front_fits}
use Rattle.kronecker.proofs.search.find.Goals as goal
use Rattle.kronecker.proofs.search.find.Goals.{After-all-2-1, After-choices-m}

pub slice_bounds-all-end : goal.slice_bounds-all-end
slice_bounds-all-end c = omega (arith, c.choices-m.ensures, power_most c.args.n c.requires)

pub slice_bounds-fill-end : goal.slice_bounds-fill-end
slice_bounds-fill-end c = sym (length-take-le _ _ (slice_bounds-all-end (goal.at.slice_bounds-fill-end c).After-choices-m))

pub fill-requires : goal.fill-requires
fill-requires c = (c.requires, length-take-le _ _ (slice_bounds-all-end (goal.at.fill-requires c).After-choices-m) ∙ c.choices-m.ensures)

pub slice_bounds-all-end-2 : goal.slice_bounds-all-end-2
slice_bounds-all-end-2 c = front_fits _ _ _ _ _ c.choices-m.ensures c.fill.ensures

pub slice_bounds-least_of-end : goal.slice_bounds-least_of-end
slice_bounds-least_of-end c = sym (length-take-le _ _ (slice_bounds-all-end-2 (goal.at.slice_bounds-least_of-end c).After-all-2-1))

pub least_of-requires : goal.least_of-requires
least_of-requires c =
    (c.requires, all_covers _ _ _ (front_is _ _ _ _ _ c.choices-m.ensures c.fill.ensures))

pub returns : goal.returns
returns c =
    found_all _ _ _ (front_is _ _ _ _ _ c.choices-m.ensures c.fill.ensures) c.requires _ c.least_of.ensures

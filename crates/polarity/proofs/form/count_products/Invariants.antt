-- `form::count_products` meets its contract: those that have been looked at are counted.
-- Assumes nothing.
use Rattle.std.proofs.Common.{◌≡◌, ◌≤◌, take}
use Rattle.std.specs.List.{count_by}
use Rattle.polarity.specs.Words.{nonzero}
use Rattle.polarity.proofs.form.count_products.Given as goal

abbrev pub invariant-loop-coefficient : goal.invariant-loop-coefficient
invariant-loop-coefficient l = (l.products ≡ count_by nonzero (take l.coefficient-index l.coefficients)) × (l.products ≤ l.coefficient-index)

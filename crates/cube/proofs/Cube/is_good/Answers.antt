-- `Cube::is_good` meets its contract.
-- Assumes nothing.
use mathlib.Core.Path.{◌∙◌}
use borrow.Author.Rules.{rules}
use Rattle.cube.proofs.Codes.{good_within_below}
use Rattle.cube.proofs.Cube.is_good.Goals as goal

pub returns : goal.returns
returns c = c.is_within.ensures ∙ good_within_below _ _ (search rules) _ c.variables_below.ensures

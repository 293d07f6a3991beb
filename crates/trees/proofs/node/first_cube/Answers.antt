-- `node::first_cube` meets its contract.
-- Assumes nothing.
use mathlib.Core.Path.{ap, ◌∙◌}
use Rattle.cube.specs.Cubes.{with_code}
use Rattle.trees.proofs.node.first_cube.Goals as goal

pub returns : goal.returns
returns c = c.with_code.ensures ∙ ap (with_code c.args.c c.args.k) c.first_code.ensures

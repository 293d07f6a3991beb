-- `check::check_script` meets its contract: the check for any kind of record, for cubes.
-- Assumes nothing.
use mathlib.Core.Path.{◌∙◌}
use Rattle.script.proofs.Scripts.{script_records}
use Rattle.script.proofs.check.check_script.Goals as goal

pub returns : goal.returns
returns c = c.check_script_on.ensures ∙ script_records c.args.n c.args.script.now

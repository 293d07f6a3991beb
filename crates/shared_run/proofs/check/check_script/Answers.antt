-- `check::check_script` meets its contract: the check for any kind of record, for shared products.
-- Assumes nothing.
use mathlib.Core.Path.{◌∙◌}
use Rattle.shared_run.proofs.SharedScripts.{shared_script_records}
use Rattle.shared_run.proofs.check.check_script.Goals as goal

pub returns : goal.returns
returns c = c.check_script_on.ensures ∙ shared_script_records c.args.n c.args.script.now

-- `show::steps` is safe: the buffer has room for the text of every script that is not too long.
-- Assumes nothing.
use native.Mathlib.Omega.{arith}
use Rattle.records.proofs.Records.{length_list}
use Rattle.script.specs.Scripts.{step_records}
use Rattle.text_files.proofs.show.steps.Goals as goal

pub spell_script-end-requires-clause-script_len_bound : goal.spell_script-end-requires-clause-script_len_bound
spell_script-end-requires-clause-script_len_bound g c = omega (arith, length_list step_records c.args.script.now)

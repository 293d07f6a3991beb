-- `show::spell_script` meets its contract: the text of at most 1,024 steps has room, whatever their bytes are.
-- Assumes nothing.
use native.Mathlib.Omega.{arith}
use Rattle.script_lines.proofs.Printing.{script_long}
use Rattle.text_files.proofs.Texts.{spelt}
use Rattle.text_files.proofs.show.spell_script.Goals as goal

pub returns : goal.returns
returns c = let both = spelt c.print.ensures (omega (arith, script_long c.args.script.now (λ i. omega (arith, c.type_inv.script i)), c.requires.script_len_bound, c.requires.in_bounds)) in record { prefix_len = both.0; text_after = both.1 }

-- `show::spell_map` meets its contract: the text of at most 4,096 products has room, whatever they are.
-- Assumes nothing.
use native.Mathlib.Omega.{arith}
use Rattle.shared.specs.SharedRecord.{shares_of}
use Rattle.pla_print.proofs.Printing.{text_long}
use Rattle.text_files.proofs.Texts.{spelt}
use Rattle.text_files.proofs.show.spell_map.Goals as goal

pub returns : goal.returns
returns c = let both = let a = c.args in
    spelt c.print.ensures (omega (arith, text_long a.n a.m (shares_of a.list.now) c.requires.n_le_most_variables.0 c.requires.n_le_most_variables.1 c.requires.list_len_bound, c.requires.in_bounds)) in record { prefix_len = both.0; text_after = both.1 }

-- `spell` meets its contract: the place in decimal, and the newline after it.
-- Assumes nothing.
use Rattle.text.specs.Numbers.{decimal}
use Rattle.program.proofs.Texts.{line_counts, line_text_lem}
use Rattle.why_files.proofs.spell.Goals as goal

pub returns : goal.returns
returns c = record { prefix_len = line_counts (decimal c.args.place) c.put_number-end.ensures c.put_byte.ensures c.requires; line_after = line_text_lem _ c.put_number-end.ensures c.put_byte.ensures c.requires }

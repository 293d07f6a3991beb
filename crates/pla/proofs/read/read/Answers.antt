-- `read::read` meets its contract: too long, refused, and read.
-- Assumes nothing.
use Rattle.pla.specs.Pla.{read_pla}
use Rattle.pla.proofs.Reading.{cleared, too_long, read_refused, read_accepted}
use mathlib.Core.Path.{sym, ap, ◌∙◌}
use lib.ListN.{length}
use Rattle.pla.proofs.read.read.Goals as goal

pub returns-then-text-gt-MOST_TEXT : goal.returns-then-text-gt-MOST_TEXT
returns-then-text-gt-MOST_TEXT c = let both = too_long _ _ c.if-text-gt-MOST_TEXT.true c.at.ensures c.clear.ensures in record { result_value = both.0; out_after = both.1 }

pub gathered-requires : goal.gathered-requires
gathered-requires c = record { text_len_bound = c.if-text-gt-MOST_TEXT.false; out_value = cleared (length c.args.out.now) c.clear.ensures }

pub returns-in-Err : goal.returns-in-Err
returns-in-Err c = let both = read_refused _ _ _ c.clear.ensures c.gathered.ensures.kept (sym (ap read_pla c.in-Err.is) ∙ c.gathered.ensures.result_value) c.clear-in-Err.ensures in record { result_value = both.0; out_after = both.1 }

pub returns-in-Ok : goal.returns-in-Ok
returns-in-Ok c = let both = read_accepted _ _ _ c.clear.ensures c.gathered.ensures.kept (sym (ap read_pla c.in-Ok.is) ∙ c.gathered.ensures.result_value) in record { result_value = both.0; out_after = both.1 }

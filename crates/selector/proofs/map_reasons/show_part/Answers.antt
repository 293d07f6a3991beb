-- `map_reasons::show_part` meets its contract.
-- Assumes nothing.
use mathlib.Core.Path.{ap, ◌∙◌}
use Rattle.reasons.specs.Calls.{reasons_outcome}
use Rattle.selector.proofs.Parts.{lent_size, lent_back}
use Rattle.selector.proofs.map_reasons.show_part.Goals as goal

pub returns : goal.returns
returns c = record { result_value = c.reasons.ensures.result_value ∙ ap (reasons_outcome c.args.n c.args.list.now c.args.a) (lent_size c.args.out.now c.args.from c.args.end c.requires); out_after = lent_back c.args.out.now c.args.from c.args.end c.requires _ _ c.reasons.ensures.out_after }

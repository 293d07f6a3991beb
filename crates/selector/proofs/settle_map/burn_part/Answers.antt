-- `settle_map::burn_part` meets its contract.
-- Assumes nothing.
use mathlib.Core.Path.{ap, ◌∙◌}
use lib.ListN.{length}
use Rattle.settling.specs.Calls.{settle_outcome}
use Rattle.selector.proofs.Parts.{lent_size, lent_back}
use Rattle.selector.proofs.settle_map.burn_part.Goals as goal

pub returns : goal.returns
returns c = record { result_value = c.settle.ensures.result_value ∙ ap (settle_outcome c.args.n c.args.list.now c.args.script.now (length c.args.work.now)) (lent_size c.args.out.now c.args.from c.args.end c.requires); out_after = lent_back c.args.out.now c.args.from c.args.end c.requires _ _ c.settle.ensures.out_after }

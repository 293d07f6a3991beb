-- `settle::burn_best` meets its contract.
-- Assumes nothing.
use Rattle.settling.proofs.settle.Settling.{best_choosable, best_burnable, best_burned}
use Rattle.settling.proofs.settle.burn_best.Goals as goal

pub choose-c-requires : goal.choose-c-requires
choose-c-requires c = best_choosable _ _ _ _ c.best_form-best.ensures _ c.requires

pub burn-burned-requires : goal.burn-burned-requires
burn-burned-requires c = best_burnable _ _ _ _ c.best_form-best.ensures _ c.choose-c.ensures _ c.requires

pub returns : goal.returns
returns c = best_burned _ _ _ _ c.best_form-best.ensures _ c.choose-c.ensures _ _ _ c.burn-burned.ensures

-- `table::put_one` meets its contract.
-- Assumes nothing.
use mathlib.Core.Path.{refl, ◌∙◌}
use mathlib.Core.List.{[], ◌∷◌}
use Rattle.kronecker.proofs.table.Filling.{stored_whole, one_left}
use Rattle.kronecker.proofs.table.put_one.Goals as goal

pub returns : goal.returns
returns c = stored_whole c.args.table.now (_ ∷ _ ∷ _ ∷ []) c.requires ∙ one_left c.args.w _ refl

-- `Products::write` meets its contract.
-- Assumes nothing.
use mathlib.Core.Path.{◌∙◌}
use Rattle.records.proofs.Items.{item_whole}
use Rattle.shared.specs.SharedRecord.{shares}
use Rattle.shared.specs.Kinds.{shares_laws}
use Rattle.shared.proofs.record.ProductsKind.write.Goals as goal

pub returns : goal.returns
returns c = c.put_in.ensures ∙ item_whole shares shares_laws _ _ c.requires.width

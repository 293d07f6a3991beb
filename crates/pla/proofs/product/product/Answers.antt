-- `product::product` meets its contract: where nothing is lacking, the inputs and the outputs are in their limits.
-- Assumes nothing.
use mathlib.Core.Path.{sym}
use Rattle.pla.proofs.Products.{nothing_lacks}
use Rattle.pla.proofs.product.product.Goals as goal

pub spelt-requires : goal.spelt-requires
spelt-requires c = nothing_lacks _ (sym c.in_ok-lacking.ensures)

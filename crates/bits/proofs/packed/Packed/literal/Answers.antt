-- `Packed::literal` meets its contract.
-- Assumes nothing.
use borrow.Author.Rules.{rules}
use Rattle.bits.proofs.packed.Literals.{literal_is}
use Rattle.bits.proofs.packed.Packed.literal.Goals as goal

pub returns : goal.returns
returns c =
    literal_is _ _ _ c.without-m.ensures _ _ c.full-low.ensures c.full-high.ensures _ _ _ _ (search rules) (search rules) (search rules) (search rules)

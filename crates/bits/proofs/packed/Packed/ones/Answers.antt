-- `Packed::ones` meets its contract.
-- Assumes nothing.
use borrow.Author.Rules.{rules}
use Rattle.bits.proofs.packed.Words.{ones_all}
use Rattle.bits.proofs.packed.Packed.ones.Goals as goal

pub returns : goal.returns
returns c = ones_all _ (search rules) (search rules) (search rules) (search rules)

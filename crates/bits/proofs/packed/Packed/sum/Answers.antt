-- `Packed::sum` meets its contract.
-- Assumes nothing.
use borrow.Author.Rules.{rules}
use Rattle.bits.specs.Packed.{summed}
use Rattle.bits.proofs.packed.Words.{each_agrees}
use Rattle.bits.proofs.packed.Packed.sum.Goals as goal

pub returns : goal.returns
unfolding summed
returns c = each_agrees c.zip.result _ (search rules) (search rules) (search rules) (search rules)

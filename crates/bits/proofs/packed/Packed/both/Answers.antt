-- `Packed::both` meets its contract.
-- Assumes nothing.
use borrow.Author.Rules.{rules}
use Rattle.bits.specs.Packed.{both}
use Rattle.bits.proofs.packed.Words.{each_agrees}
use Rattle.bits.proofs.packed.Packed.both.Goals as goal

pub returns : goal.returns
unfolding both
returns c = each_agrees c.zip.result _ (search rules) (search rules) (search rules) (search rules)

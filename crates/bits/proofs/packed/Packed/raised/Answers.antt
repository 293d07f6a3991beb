-- `Packed::raised` meets its contract.
-- Assumes nothing.
use borrow.Author.Rules.{rules}
use Rattle.bits.proofs.packed.Passes.{raised_each, raised_six, raised_above}
use Rattle.bits.proofs.packed.Packed.raised.Goals as goal

pub returns-then-k-lt6 : goal.returns-then-k-lt6
returns-then-k-lt6 c = raised_each _ _ c.if-k-lt6.true _ _ _ _ (search rules) (search rules) (search rules) (search rules)

pub returns-then-k-eq6 : goal.returns-then-k-eq6
returns-then-k-eq6 c = raised_six _ _ (search rules)

pub returns : goal.returns
returns c = raised_above _ _ (search rules) (search rules)

-- `packed::without` meets its contract.
-- Assumes nothing.
use Rattle.bits.proofs.packed.Literals.{without_low, without_six, without_above}
use borrow.Author.Rules.{rules}
use Rattle.bits.proofs.packed.without.Goals as goal

pub returns-then-k-lt6 : goal.returns-then-k-lt6
returns-then-k-lt6 c = without_low _ _ (search rules) c.mask-m.ensures

pub returns-then-k-eq6 : goal.returns-then-k-eq6
returns-then-k-eq6 c = without_six _ (search rules)

pub returns : goal.returns
returns c = without_above _ (search rules) (search rules)

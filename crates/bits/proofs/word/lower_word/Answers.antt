-- `word::lower_word` meets its contract.
-- Assumes nothing.
use borrow.Author.Rules.{rules}
use Rattle.bits.proofs.word.Masks.{half_fits, lower_is}
use Rattle.bits.proofs.word.lower_word.Goals as goal

pub overflow_shr-result : goal.overflow_shr-result
overflow_shr-result c = search half_fits

pub returns : goal.returns
returns c = lower_is _ (search rules) _ _ c.mask.ensures

-- `word::raise_word` meets its contract.
-- Assumes nothing.
use borrow.Author.Rules.{rules}
use Rattle.bits.proofs.word.Masks.{half_fits, raise_is}
use Rattle.bits.proofs.word.raise_word.Goals as goal

pub overflow_shl-result : goal.overflow_shl-result
overflow_shl-result c = search half_fits

pub returns : goal.returns
returns c = raise_is _ (search rules) _ _ c.mask.ensures

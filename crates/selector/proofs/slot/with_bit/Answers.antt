-- `slot::with_bit` meets its contract.
-- Assumes nothing.
use Rattle.selector.proofs.slot.Slotting.{bit_above, bit_fits}
use Rattle.selector.proofs.slot.with_bit.Goals as goal

pub overflow_add-result : goal.overflow_add-result
overflow_add-result c = record { fits = bit_fits _ _ _ c.requires.0 c.requires.1.0 c.requires.1.1 }

pub returns : goal.returns
returns c = bit_above _ _ _ c.requires.0 c.requires.1.0 c.requires.1.1

-- `bits::bit` meets its contract: a 32-bit number has no bit at or above 32.
-- Assumes nothing.
use mathlib.Core.Path.{sym}
use borrow.Author.Rules.{rules}
use Rattle.bits.proofs.Bits.{bit_high}
use Rattle.bits.proofs.bit.Goals as goal

pub returns-then-k-ge-SET_BITS : goal.returns-then-k-ge-SET_BITS
returns-then-k-ge-SET_BITS c = sym (bit_high 32 c.args.x c.args.k (search rules) c.if-k-ge-SET_BITS.true)

-- `vector::stride_good` meets its contract.
-- Assumes nothing.
use mathlib.Core.Path.{refl}
use Rattle.polarity.proofs.vector.Tests.{eight_short, eight_pass}
use Rattle.polarity.proofs.vector.stride_good.Goals as goal

pub returns-then-bytes-i-lt-STRIDE : goal.returns-then-bytes-i-lt-STRIDE
returns-then-bytes-i-lt-STRIDE c = eight_short c.args.bytes.now c.args.i c.if-bytes-i-lt-STRIDE.true

pub returns : goal.returns
returns c =
    eight_pass c.args.bytes.now c.args.i c.if-bytes-i-lt-STRIDE.false _ refl _ c.eight_bits.ensures

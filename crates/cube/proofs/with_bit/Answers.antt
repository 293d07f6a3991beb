-- `cube::with_bit` meets its contract.
-- Assumes nothing.
use Rattle.bits.proofs.Bits.{shl_one, set_bit, clear_bit}
use Rattle.cube.proofs.with_bit.Goals as goal

pub returns-then-t : goal.returns-then-t
returns-then-t c = rw (shl_one c.args.k 32 c.requires, c.if-t.true) (set_bit _ _)

pub returns : goal.returns
returns c = rw (shl_one c.args.k 32 c.requires, c.if-t.false) (clear_bit _ _)

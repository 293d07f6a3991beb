-- `put_carried` meets its contract.
-- Assumes nothing.
use Rattle.outputs.proofs.Gathering.{put_with, put_without}
use Rattle.outputs.proofs.put_carried.Goals as goal

pub returns-then-bit-eq1 : goal.returns-then-bit-eq1
returns-then-bit-eq1 c = let both = put_with _ _ _ _ c.bit.ensures c.if-bit-eq1.true c.put_record.ensures in record { value = both.0; out_after = both.1 }

pub returns : goal.returns
returns c = let both = put_without _ _ _ _ c.bit.ensures c.if-bit-eq1.false in record { value = both.0; out_after = both.1 }

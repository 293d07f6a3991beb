-- `checksum` meets its contract.
-- Assumes nothing.
use Rattle.cksum.proofs.Remainders.{checksum_is}
use Rattle.cksum.proofs.checksum.Goals as goal

pub returns : goal.returns
returns c = checksum_is _ _ _ c.with_bytes-c.ensures c.with_length.ensures

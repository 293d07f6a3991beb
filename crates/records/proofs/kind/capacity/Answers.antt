-- `kind::capacity` meets its contract.
-- Assumes nothing.
use Rattle.std.proofs.Common.{rules}
use Rattle.records.specs.Records.{capacity_of}
use Rattle.records.proofs.kind.capacity.Goals as goal

pub returns : goal.returns
unfolding capacity_of
returns g c = let t = g.met.K.Kind.width_is in search rules

-- `candidates::candidate` meets its contract.
-- Assumes nothing.
use Rattle.settling.proofs.candidates.Choosing.{candidate_is}
use Rattle.settling.proofs.candidates.candidate.Goals as goal

pub returns : goal.returns
returns c = candidate_is c.args.counts _ _ c.rank.ensures

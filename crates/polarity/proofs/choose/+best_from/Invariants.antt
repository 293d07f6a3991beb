-- The proof of the cycle of calls {best_from}. The measure is k, the number of variables left.
-- Assumes nothing.
use Rattle.polarity.proofs.choose.+best_from.Given as goal

abbrev pub decreases-best_from : goal.decreases-best_from
decreases-best_from g l = l.k

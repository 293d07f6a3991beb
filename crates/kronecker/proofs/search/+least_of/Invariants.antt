-- The proof of the cycle of calls {least_of}. The measure is the number of variables that are left.
-- Assumes nothing.
use Rattle.kronecker.proofs.search.+least_of.Given as goal

abbrev pub decreases-least_of : goal.decreases-least_of
decreases-least_of l = l.left

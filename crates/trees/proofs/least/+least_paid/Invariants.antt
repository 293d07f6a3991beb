-- The proof of the cycle of calls {least_paid}. The measure is the number of variables that are left.
-- Assumes nothing.
use Rattle.trees.proofs.least.+least_paid.Given as goal

abbrev pub decreases-least_paid : goal.decreases-least_paid
decreases-least_paid l = l.left

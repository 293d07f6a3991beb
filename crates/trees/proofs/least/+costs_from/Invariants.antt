-- The proof of the cycle of calls {costs_from}. The measure is the number of variables that are left.
-- Assumes nothing.
use Rattle.trees.proofs.least.+costs_from.Given as goal

abbrev pub decreases-costs_from : goal.decreases-costs_from
decreases-costs_from l = l.left

-- The proof of the cycle of calls {fill}. The measure is the number of variables that are left.
-- Assumes nothing.
use Rattle.kronecker.proofs.table.+fill.Given as goal

abbrev pub decreases-fill : goal.decreases-fill
decreases-fill l = l.left

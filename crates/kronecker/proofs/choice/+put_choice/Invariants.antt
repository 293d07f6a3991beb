-- The proof of the cycle of calls {put_choice}. The measure is the number of variables that are left.
-- Assumes nothing.
use Rattle.kronecker.proofs.choice.+put_choice.Given as goal

abbrev pub decreases-put_choice : goal.decreases-put_choice
decreases-put_choice l = l.left

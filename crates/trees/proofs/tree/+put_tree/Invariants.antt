-- The proof of the cycle of calls {put_tree}. The measure is the number of variables that are left.
-- Assumes nothing.
use Rattle.trees.proofs.tree.+put_tree.Given as goal

abbrev pub decreases-put_tree : goal.decreases-put_tree
decreases-put_tree l = l.left

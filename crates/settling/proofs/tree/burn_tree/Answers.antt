-- `tree::burn_tree` meets its contract.
-- Assumes nothing.
use mathlib.Core.Path.{sym}
use lib.Seq.{length-take-le}
use Rattle.settling.proofs.burn.Written.{front_end, front_vector, front_room, front_burned}
use Rattle.trees.specs.Least.{tree_list}
use Rattle.settling.proofs.tree.burn_tree.Goals as goal

pub slice_bounds-put_tree-end : goal.slice_bounds-put_tree-end
slice_bounds-put_tree-end c = sym (length-take-le _ _ (front_end _ _ _ _ c.requires))

pub put_tree-requires : goal.put_tree-requires
put_tree-requires c = record { vector = front_vector _ _ _ _ c.requires; vector_len_bound = front_room _ _ _ _ c.requires }

pub returns : goal.returns
returns c =
    front_burned _ _ (tree_list c.args.n) _ c.requires _ _ _ c.put_tree.ensures

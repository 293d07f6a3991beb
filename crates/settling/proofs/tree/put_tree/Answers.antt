-- `tree::put_tree` meets its contract.
-- Assumes nothing.
use Rattle.settling.proofs.burn.Written.{list_written}
use Rattle.settling.proofs.tree.put_tree.Goals as goal

pub returns : goal.returns
returns c =
    list_written _ _ c.requires.vector_len_bound _ c.clear.ensures _ c.put_list.ensures.value _ c.put_list.ensures.out_after

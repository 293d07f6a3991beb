-- `tree::put_list` meets its contract.
-- Assumes nothing.
use mathlib.Core.Path.{◌∙◌}
use native.Mathlib.Nat.{zero-add}
use native.Mathlib.Omega.{arith}
use Rattle.polarity.proofs.Vectors.{vector_most}
use Rattle.trees.proofs.Halves.{stands_vector}
use Rattle.trees.proofs.tree.put_list.Goals as goal

pub bits_of-requires : goal.bits_of-requires
bits_of-requires c = c.requires

pub put_tree-requires : goal.put_tree-requires
put_tree-requires c = (omega (arith, c.requires.few), omega (arith, vector_most _ _ c.requires))

pub returns : goal.returns
returns c = let S = stands_vector _ _ c.requires _ c.bits_of.ensures in
    record { value = c.put_tree.ensures.next _ S ∙ zero-add _; out_after = c.put_tree.ensures.bytes _ S }

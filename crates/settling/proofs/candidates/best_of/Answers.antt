-- `candidates::best_of` meets its contract.
-- Assumes nothing.
use mathlib.Core.Path.{◌∙◌}
use Rattle.settling.proofs.candidates.Polarities.{vector_written, vector_is_vector, tree_counted, best_polarity_found}
use Rattle.settling.proofs.candidates.best_of.Goals as goal

pub count_tree-tree-requires : goal.count_tree-tree-requires
count_tree-tree-requires c =
    vector_is_vector _ _ c.requires.accepts _ (vector_written _ _ c.requires.accepts _ _ c.requires.vector_len c.truth_vector.ensures.out_after)

pub returns : goal.returns
returns c =
    let v = vector_written _ _ c.requires.accepts _ _ c.requires.vector_len c.truth_vector.ensures.out_after in record {
      forms_are = record {
        fixed = c.ok-fixed.ensures.value ∙ best_polarity_found _ _ c.requires.accepts _ v _ c.best_polarity.ensures;
        tree = tree_counted _ _ _ v _ c.count_tree-tree.ensures;
      };
      vector_after = v;
    }

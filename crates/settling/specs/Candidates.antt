-- The candidates of a settled map, and the one that is burned. Document 01, "Settling"; document 02, Two and Six.
-- Assumes nothing.
use Rattle.std.specs.Prelude.{ℕ, zero, suc, cond, List, leb, length, Option, Some, None}
use Rattle.cube.specs.declared.Cube.{Cube}
use Rattle.cube.specs.Lists.{truth_vector, vector_variables}
use Rattle.polarity.specs.declared.BestPolarity.{BestPolarity}
use Rattle.polarity.specs.Cost.{cheaper}
use Rattle.polarity.specs.Forms.{form_list, best_polarity}
use Rattle.polarity.specs.Vectors.{byte_at}
use Rattle.trees.specs.Least.{tree_list}

-- the best polarity of a list's function, and "the form of the best polarity"
abbrev pub best_of : ℕ → List Cube → ℕ
best_of n l = best_polarity n (byte_at (truth_vector n l))

unfoldable pub best_form : ℕ → List Cube → List Cube
best_form n l = form_list n (best_of n l) (byte_at (truth_vector n l))

-- the tree's list of a list's function: "Settling takes it as a fourth and last candidate" (document 02, Six)
unfoldable pub tree_form : ℕ → List Cube → List Cube
tree_form n l = tree_list n (byte_at (truth_vector n l))

-- "Settling compares cost, then products, then the old order of candidates" (document 02, Two): the later one where it comes before, else the earlier
abbrev pub better : List Cube → List Cube → List Cube
better earlier later = cond (cheaper later earlier) later earlier

-- "the script's result, the given list, the form of the best polarity (only where n is at most 8)", and, where there is that form, the tree's list
unfoldable pub burned_list : ℕ → List Cube → List Cube → List Cube
burned_list n result given =
    cond (leb n vector_variables) (better (better (better result given) (best_form n given)) (tree_form n given)) (better result given)

-- the candidates by number, in "the old order of candidates" and the tree's list "last", and how many there are: "only where n is at most 8" the last two
abbrev pub candidate_at : ℕ → List Cube → List Cube → ℕ → List Cube
candidate_at n result given zero = result
candidate_at n result given (suc zero) = given
candidate_at n result given (suc (suc zero)) = best_form n given
candidate_at n result given (suc (suc (suc k))) = tree_form n given

abbrev pub candidate_count : ℕ → ℕ
candidate_count n = cond (leb n vector_variables) 4 2

-- "best polarity and its size", which there are for at most 8 variables
unfoldable pub fixed_of : ℕ → List Cube → Option BestPolarity
fixed_of n given = cond (leb n vector_variables) (Some (record { polarity = best_of n given; products = length (best_form n given) })) None

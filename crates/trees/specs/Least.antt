-- The cheapest tree of a function. Document 02, Six: "Find the least cost by Two's measure."
-- Assumes nothing.
use Rattle.std.specs.Prelude.{Bool, true, false, ◌&&◌, cond, List, ℕ, zero, suc, ◌+◌, leb}
use Rattle.cube.specs.declared.Cube.{Cube}
use Rattle.trees.specs.declared.Expansion.{Expansion}
use Rattle.trees.specs.declared.Expansion.TheVariants.{Shannon, Positive, Negative}
use Rattle.trees.specs.Trees.{first, second, unmarked, Tree, leaf, node, leaf_cost, list_of}

-- "Ties at a node go to the first of that order": of three numbers the least, and of several such the first
abbrev pub first_of_three : ℕ → ℕ → ℕ → Expansion
first_of_three s p n = cond (leb s p && leb s n) Shannon (cond (leb p n) Positive Negative)

unfoldable pub first_least : (Expansion → ℕ) → Expansion
first_least g = first_of_three (g Shannon) (g Positive) (g Negative)

-- "The two branches are worked out the same way on the smaller function until no variable is left": the least cost, by the number of variables that are left
unfoldable pub least : ℕ → Bool → (ℕ → ℕ) → ℕ
least zero free f = leaf_cost free (f 0)
least (suc n) free f =
    let through : Expansion → ℕ = λ e. least n (free && unmarked e) (first e f) + least n false (second e f) in
    through (first_least through)

-- the cost of a node by the expansion e, each branch at its least
abbrev pub through : ℕ → Bool → (ℕ → ℕ) → Expansion → ℕ
through n free f e = least n (free && unmarked e) (first e f) + least n false (second e f)

-- the expansion at a node that has n variables left below it
unfoldable pub choice : ℕ → Bool → (ℕ → ℕ) → Expansion
choice n free f = first_least (through n free f)

-- the tree of these choices
unfoldable pub chosen : (n : ℕ) → Bool → (ℕ → ℕ) → Tree n
chosen zero free f = leaf
chosen (suc n) free f =
    node (choice n free f)
    (chosen n (free && unmarked (choice n free f)) (first (choice n free f) f))
    (chosen n false (second (choice n free f) f))

-- the tree's list of a function: no literal leads to its first node
abbrev pub tree_list : ℕ → (ℕ → ℕ) → List Cube
tree_list n f = list_of (chosen n true f) f

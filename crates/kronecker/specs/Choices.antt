-- Choices of one expansion for each variable, their lists, and the cheapest. Document 02, Ten; 002, section 2: the Kronecker expression, for which "we can use either the
-- Shannon, the positive Davio or the negative Davio expansion for each variable".
-- Assumes nothing.
use Rattle.std.specs.Prelude.{List, ℕ, zero, suc, ◌+◌, ◌*◌, ◌/◌, ◌%◌, ◌^◌, ltb}
use Rattle.bits.specs.Below.{first_below}
use Rattle.cube.specs.declared.Cube.{Cube}
use Rattle.polarity.specs.Cost.{cost}
use Rattle.trees.specs.declared.Expansion.{Expansion}
use Rattle.trees.specs.declared.Expansion.TheVariants.{Shannon, Positive, Negative}
use Rattle.trees.specs.Trees.{Tree, leaf, node, list_of}

-- "digit 0 Shannon, 1 positive Davio, 2 negative Davio"
abbrev pub expansion_of : ℕ → Expansion
expansion_of zero = Shannon
expansion_of (suc zero) = Positive
expansion_of (suc (suc d)) = Negative

-- "One choice for each variable", "variable 0 the lowest digit": Six's tree with the same expansion at every node of a variable
unfoldable pub choice_tree : (n : ℕ) → ℕ → Tree n
choice_tree zero x = leaf
choice_tree (suc n) x = node (expansion_of (x % 3)) (choice_tree n (x / 3)) (choice_tree n (x / 3))

-- its list, "in Six's order"
abbrev pub choice_list : ℕ → ℕ → (ℕ → ℕ) → List Cube
choice_list n x f = list_of (choice_tree n x) f

-- what it costs, by Two's measure
abbrev pub choice_cost : ℕ → (ℕ → ℕ) → ℕ → ℕ
choice_cost n f x = cost (choice_list n x f)

-- "all 3^n choices": "the least cost and, among those, the smallest choice"
unfoldable pub best_choice : ℕ → (ℕ → ℕ) → ℕ
best_choice n f = first_below (λ y x. ltb (choice_cost n f y) (choice_cost n f x)) (3 ^ n)

-- "write that list"
abbrev pub kronecker_list : ℕ → (ℕ → ℕ) → List Cube
kronecker_list n f = choice_list n (best_choice n f) f

-- 002: "clearly FPRMs form a special class of KROs": the choice of a polarity has positive Davio where its bit is 0 and negative Davio where it is 1
unfoldable pub polarity_choice : ℕ → ℕ → ℕ
polarity_choice zero p = 0
polarity_choice (suc n) p = 1 + p % 2 + 3 * polarity_choice n (p / 2)

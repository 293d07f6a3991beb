-- Expansion trees of a function, their lists and their costs. Document 02, Six; 002, section 2: equations 2.1 to 2.3, and the pseudo Kronecker expression.
-- A function is its value at each assignment of the variables that are left; the next variable is the lowest bit of an assignment.
-- Assumes nothing.
use Rattle.std.specs.Prelude.{Bool, false, ◌&&◌, not, cond, List, [], ◌∷◌, ◌++◌, ℕ, zero, suc, ◌+◌, ◌*◌, ◌/◌, ◌%◌, eqb}
use Rattle.bits.specs.Sums.{one_if}
use Rattle.cube.specs.declared.Cube.{Cube}
use Rattle.cube.specs.Cubes.{with_code, one}
use Rattle.trees.specs.declared.Expansion.{Expansion}
use Rattle.trees.specs.declared.Expansion.TheVariants.{Shannon, Positive, Negative}

-- ---- the three functions of a node

-- f0, f1 and f0 ⊕ f1: where the next variable is 0, where it is 1, and their sum modulo 2
abbrev pub lower : (ℕ → ℕ) → ℕ → ℕ
lower f a = f (2 * a)

abbrev pub upper : (ℕ → ℕ) → ℕ → ℕ
upper f a = f (2 * a + 1)

abbrev pub change : (ℕ → ℕ) → ℕ → ℕ
change f a = (lower f a + upper f a) % 2

-- ---- the two branches of an expansion, in the order of the list: "the branch of the lower function (or the one without the literal) before the other"

-- f is `x̄ f0 ⊕ x f1` = `f0 ⊕ x (f0 ⊕ f1)` = `f1 ⊕ x̄ (f0 ⊕ f1)`
abbrev pub first : Expansion → (ℕ → ℕ) → ℕ → ℕ
first Shannon f = lower f
first Positive f = lower f
first Negative f = upper f

abbrev pub second : Expansion → (ℕ → ℕ) → ℕ → ℕ
second Shannon f = upper f
second Positive f = change f
second Negative f = change f

-- the literal that leads to each of them, by its code: "0 for the complemented literal, 1 for the plain one, 2 for absent"
abbrev pub first_code : Expansion → ℕ
first_code Shannon = 0
first_code Positive = 2
first_code Negative = 2

abbrev pub second_code : Expansion → ℕ
second_code Shannon = 1
second_code Positive = 1
second_code Negative = 0

-- no literal leads to the first
abbrev pub unmarked : Expansion → Bool
unmarked e = eqb (first_code e) 2

-- ---- trees

-- "expand by variable 0, then 1 and so on, at each node by Shannon, positive Davio or negative Davio": a choice at each node, for n variables that are left
pub data Tree : ℕ → Type 0 where
  leaf : Tree zero
  node : {n : ℕ} → Expansion → Tree n → Tree n → Tree (suc n)

-- with no variable left, of a function that is x: the product c that leads there, where x is 1
unfoldable pub leaf_list : ℕ → Cube → List Cube
leaf_list x c = cond (eqb x 0) [] (c ∷ [])

-- the products of f's tree, "depth first", where the product c leads to it and k is the next variable
unfoldable pub products : {n : ℕ} → Tree n → ℕ → Cube → (ℕ → ℕ) → List Cube
products leaf k c f = leaf_list (f 0) c
products (node e t u) k c f =
    products t (suc k) (with_code c k (first_code e)) (first e f) ++ products u (suc k) (with_code c k (second_code e)) (second e f)

-- the list of a tree, which begins with variable 0 and the product that has no literal
abbrev pub list_of : {n : ℕ} → Tree n → (ℕ → ℕ) → List Cube
list_of t f = products t 0 one f

-- with no variable left "the product without literals is free only at a node that no literal leads to"
abbrev pub leaf_cost : Bool → ℕ → ℕ
leaf_cost free x = cond free 0 (one_if (not (eqb x 0)))

-- "A node's cost is that of its two branches together"; `free` says that no literal leads to the node
unfoldable pub tree_cost : {n : ℕ} → Tree n → Bool → (ℕ → ℕ) → ℕ
tree_cost leaf free f = leaf_cost free (f 0)
tree_cost (node e t u) free f = tree_cost t (free && unmarked e) (first e f) + tree_cost u false (second e f)

-- ---- a polarity's tree: "a set bit k means variable k appears only complemented", so negative Davio there, at every node of the variable

abbrev pub davio : ℕ → Expansion
davio zero = Positive
davio (suc b) = Negative

unfoldable pub polarity_tree : (n : ℕ) → ℕ → Tree n
polarity_tree zero p = leaf
polarity_tree (suc n) p = node (davio (p % 2)) (polarity_tree n (p / 2)) (polarity_tree n (p / 2))

-- Inside: what the functions of this crate do with the bits of a vector in four words. The call of document 02, Six, is read without it.
-- Assumes nothing.
use Rattle.std.specs.Prelude.{◌≡◌, Bool, true, false, List, ℕ, suc, ◌+◌, ◌*◌, ◌^◌, ◌≤◌, ◌<◌, min, length}
use Rattle.bits.specs.Packed.{bit_at, lowered, summed}
use Rattle.bits.specs.declared.packed.Packed.{Packed}
use Rattle.records.specs.Records.{written}
use Rattle.cube.specs.declared.Cube.{Cube}
use Rattle.cube.specs.Lists.{cubes}
use Rattle.trees.specs.declared.Expansion.{Expansion}
use Rattle.trees.specs.declared.Expansion.TheVariants.{Shannon, Positive, Negative}
use Rattle.trees.specs.declared.Costs.{Costs}
use Rattle.trees.specs.Trees.{Tree, products, tree_cost}
use Rattle.trees.specs.Least.{first_of_three, least, choice, chosen}

-- ---- a vector and its halves

-- four words
abbrev pub words : ℕ → ℕ → ℕ → ℕ → Packed
words a b c d = record { a = a; b = b; c = c; d = d }

-- the function f of the variables from k on, of which so many are left, stands at the bits whose index has no variable below k
pub record Stands (k left : ℕ) (f : ℕ → ℕ) (w : Packed) : Type 0 where
  pub at : (a : ℕ) → a < 2 ^ left → bit_at w (a * 2 ^ k) ≡ f a

-- the half with variable k, moved to the places of the half without it; that one stands where it must already
abbrev pub upper_half : ℕ → Packed → Packed
upper_half k w = summed w (lowered k w)

-- the two branches of an expansion by variable k
abbrev pub first_half : Expansion → ℕ → Packed → Packed
first_half Shannon k w = w
first_half Positive k w = w
first_half Negative k w = upper_half k w

abbrev pub second_half : Expansion → ℕ → Packed → Packed
second_half Shannon k w = upper_half k w
second_half Positive k w = lowered k w
second_half Negative k w = lowered k w

-- ---- costs

-- the least of the sums of two of three costs
abbrev pub least_sum : ℕ → ℕ → ℕ → ℕ
least_sum l h d = min (l + min h d) (h + d)

-- none of the three numbers is above m
pub record Few (m : ℕ) (c : Costs) : Type 0 where
  pub cost : c.cost ≤ m
  pub products : c.products ≤ m
  pub paid : c.paid ≤ m

-- with no variable left, of a function that is x
abbrev pub leaf_costs : ℕ → Costs
leaf_costs x = record { cost = 0; products = x; paid = x }

-- a node by an expansion, from the costs of its three functions
abbrev pub node_by : Expansion → Costs → Costs → ℕ → Costs
node_by Shannon l h d = record { cost = l.paid + h.paid; products = l.paid + h.paid; paid = least_sum l.paid h.paid d }
node_by Positive l h d = record { cost = l.cost + d; products = l.products + d; paid = least_sum l.paid h.paid d }
node_by Negative l h d = record { cost = h.cost + d; products = h.products + d; paid = least_sum l.paid h.paid d }

unfoldable pub node_costs : Costs → Costs → ℕ → Costs
node_costs l h d = node_by (first_of_three (l.paid + h.paid) (l.cost + d) (h.cost + d)) l h d

-- r is the least cost of the function that stands in w, where a literal leads to it
pub record PaidIs (k left : ℕ) (w : Packed) (r : ℕ) : Type 0 where
  pub few : r ≤ 2 ^ left
  pub is : (f : ℕ → ℕ) → Stands k left f w → r ≡ least left false f

-- both least costs, and the products of the tree to which no literal leads
pub record CostsAre (k left : ℕ) (w : Packed) (r : Costs) : Type 0 where
  pub few : Few (2 ^ left) r
  pub cost_is : (f : ℕ → ℕ) → Stands k left f w → r.cost ≡ least left true f
  pub products_are : (f : ℕ → ℕ) → Stands k left f w → r.products ≡ tree_cost (chosen left true f) false f
  pub paid_is : (f : ℕ → ℕ) → Stands k left f w → r.paid ≡ least left false f

-- e is the expansion at a node of the function that stands in w, with m variables left below it
pub record ChoiceIs (k m : ℕ) (free : Bool) (w : Packed) (e : Expansion) : Type 0 where
  pub is : (f : ℕ → ℕ) → Stands k (suc m) f w → e ≡ choice m free f

-- ---- the list

-- a tree for each function, by the number of variables that are left
abbrev pub Plan : Type 0
Plan = (n : ℕ) → (ℕ → ℕ) → Tree n

-- the cheapest, where `free` says that no literal leads to it
abbrev pub cheapest : Bool → Plan
cheapest free n f = chosen n free f

-- the products of the planned tree, where the product c leads to it, stand in the buffer from place `at` on, and r is the next place
pub record PutIs (k left : ℕ) (plan : Plan) (w : Packed) (c : Cube) (at : ℕ) (out out' : List ℕ) (r : ℕ) : Type 0 where
  pub few : r ≤ at + 2 ^ left
  pub next : (f : ℕ → ℕ) → Stands k left f w → r ≡ at + length (products (plan left f) k c f)
  pub bytes : (f : ℕ → ℕ) → Stands k left f w → out' ≡ written cubes at (products (plan left f) k c f) out

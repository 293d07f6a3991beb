-- Inside: what the functions of this crate do with the table of all choices, and with the bits of a vector in one word. The call of document 02, Ten, is read without it.
-- The function of a word is its bit at each assignment.
-- Assumes nothing.
use Rattle.std.specs.Prelude.{◌≡◌, true, false, cond, List, ◌++◌, ℕ, ◌+◌, ◌-◌, ◌%◌, ◌^◌, ◌≤◌, ◌<◌, ltb, length, get_or}
use Rattle.bits.specs.Below.{first_below, list_below}
use Rattle.polarity.specs.Cost.{cost}
use Rattle.trees.specs.Trees.{tree_cost}
use Rattle.trees.specs.Words.{Plan}
use Rattle.kronecker.specs.declared.WrittenKronecker.{WrittenKronecker}
use Rattle.kronecker.specs.Choices.{choice_tree, best_choice, kronecker_list}

-- ---- a function's halves by one variable

-- where the variable is 0, where it is 1, and their change
pub data Half : Type 0 where
  low_half : Half
  high_half : Half
  sum_half : Half

-- from the values of the first two
abbrev pub half_of : Half → ℕ → ℕ → ℕ
half_of low_half x y = x
half_of high_half x y = y
half_of sum_half x y = (x + y) % 2

-- by the highest of n + 1 variables
abbrev pub highest : ℕ → Half → (ℕ → ℕ) → ℕ → ℕ
highest n h f a = half_of h (f a) (f (2 ^ n + a))

-- ---- the table

-- how many products the list of choice x has: what its tree costs where a literal leads to it
abbrev pub products_of : ℕ → (ℕ → ℕ) → ℕ → ℕ
products_of n f x = tree_cost (choice_tree n x) false f

-- what it costs: its tree where no literal leads to it
abbrev pub cost_of : ℕ → (ℕ → ℕ) → ℕ → ℕ
cost_of n f x = tree_cost (choice_tree n x) true f

-- the products of all choices, each at its place
unfoldable pub products_of_all : ℕ → (ℕ → ℕ) → List ℕ
products_of_all n f = list_below (3 ^ n) (products_of n f)

-- three parts of a table, of the lower half, the upper half and their change, become those of the highest variable's digits: any two together
unfoldable pub joined_parts : ℕ → List ℕ → List ℕ
joined_parts t l =
    list_below t (λ i. get_or l i 0 + get_or l (t + i) 0)
    ++ (list_below t (λ i. get_or l i 0 + get_or l (t + t + i) 0) ++ list_below t (λ i. get_or l (t + i) 0 + get_or l (t + t + i) 0))

-- ---- the search

-- of the numbers below m the one at which g is least, and of several such the smallest
abbrev pub least_below : (ℕ → ℕ) → ℕ → ℕ
least_below g m = first_below (λ y x. ltb (g y) (g x)) m

-- of the entries of a table the least, and of several such the first; the place is the choice, and the entry its products and its cost
pub record LeastEntry (l : List ℕ) (r : WrittenKronecker) : Type 0 where
  pub choice_is : r.choice ≡ least_below (λ i. get_or l i 0) (length l)
  pub cost_is : r.cost ≡ get_or l r.choice 0
  pub products_are : r.products ≡ get_or l r.choice 0

-- with no variable left, of an entry and the function's value x there: the product is free where x is 1
abbrev pub lowest_of : ℕ → ℕ → WrittenKronecker
lowest_of entry x = record { cost = entry - x; choice = 0; products = entry }

-- of two that are each found in a range, where y's choices count from `from` on: y where it costs less, else x
unfoldable pub lesser_from : WrittenKronecker → WrittenKronecker → ℕ → WrittenKronecker
lesser_from x y from = cond (ltb y.cost x.cost) (record { cost = y.cost; choice = from + y.choice; products = y.products }) x

-- what the product without literals saves of choice x
abbrev pub saved : ℕ → (ℕ → ℕ) → ℕ → ℕ
saved n f x = products_of n f x - cost_of n f x

-- each entry of a table, or of a part of it, counts the products of its choice, and perhaps more
pub record Covers (n : ℕ) (f : ℕ → ℕ) (l : List ℕ) : Type 0 where
  pub long : length l ≡ 3 ^ n
  pub at : (x : ℕ) → x < 3 ^ n → products_of n f x ≤ get_or l x 0

-- the entries less what is saved
abbrev pub cost_in : ℕ → (ℕ → ℕ) → List ℕ → ℕ → ℕ
cost_in n f l x = get_or l x 0 - saved n f x

-- of the choices of such a table the least cost, the smallest choice that has it, and its entry
pub record FoundIn (n : ℕ) (f : ℕ → ℕ) (l : List ℕ) (r : WrittenKronecker) : Type 0 where
  pub choice_is : r.choice ≡ least_below (cost_in n f l) (3 ^ n)
  pub cost_is : r.cost ≡ cost_in n f l r.choice
  pub products_are : r.products ≡ get_or l r.choice 0

-- the cheapest choice of a function
pub record FoundIs (n : ℕ) (f : ℕ → ℕ) (r : WrittenKronecker) : Type 0 where
  pub choice_is : r.choice ≡ best_choice n f
  pub cost_is : r.cost ≡ cost (kronecker_list n f)
  pub products_are : r.products ≡ length (kronecker_list n f)

-- ---- the list

-- the choice x at every node
abbrev pub each : ℕ → Plan
each x n f = choice_tree n x

-- Fixed-polarity forms of a function f of the assignments of n variables. Document 01, "Fixed polarity"; 001, definition 3; 002, lemma 2.2.
-- Assumes nothing.
use Rattle.std.specs.Prelude.{not, cond, ◌≢◌, List, map, ℕ, ◌%◌, ◌^◌, eqb, length}
use Rattle.std.specs.Int.Bits.{bit_and, bit_xor}
use Rattle.bits.specs.Bits.{bit, within}
use Rattle.bits.specs.Below.{sum_below, those, Ascending, first_below}
use Rattle.bits.specs.Sums.{All}
use Rattle.cube.specs.declared.Cube.{Cube}
use Rattle.cube.specs.Cubes.{code, Good}
use Rattle.polarity.specs.Cost.{cheaper}

-- ---- coefficients

-- the parity of f over all t within s
unfoldable pub parity_within : ℕ → (ℕ → ℕ) → ℕ → ℕ
parity_within n f s = sum_below (2 ^ n) (λ t. cond (within t s) (f t) 0) % 2

-- "The coefficient of variable set s under p is the parity of the vector's bytes at t EXOR p, over all t within s"
abbrev pub coefficient : ℕ → ℕ → (ℕ → ℕ) → ℕ → ℕ
coefficient n p f s = parity_within n (λ t. f (bit_xor t p)) s

-- "Value from coefficients: the parity of the coefficients of all s within a EXOR p is the byte at a"
abbrev pub value_back : ℕ → ℕ → (ℕ → ℕ) → ℕ → ℕ
value_back n p c a = parity_within n c (bit_xor a p)

-- ---- the form

-- "each variable of s with p's literal": "a set bit k means variable k appears only complemented", so value keeps of seen what is not in p
abbrev pub product : ℕ → ℕ → Cube
product p s = record { seen = s; value = bit_and s (bit_xor s p) }

-- "The form's list has one cube per nonzero coefficient, s ascending", from its coefficients
unfoldable pub form_from : ℕ → ℕ → (ℕ → ℕ) → List Cube
form_from n p c = map (product p) (those (λ s. not (eqb (c s) 0)) (2 ^ n) 0)

-- the form of a function
abbrev pub form_list : ℕ → ℕ → (ℕ → ℕ) → List Cube
form_list n p f = form_from n p (coefficient n p f)

-- "Its size is the number of products"
abbrev pub size : ℕ → ℕ → (ℕ → ℕ) → ℕ
size n p f = length (form_list n p f)

-- ---- any form

-- a cube's set of variables
abbrev pub variables : Cube → ℕ
variables c = c.seen

-- Any list that is a form under p, however it was made. 001, definition 3, of the case in which each term is a product (fan-in 1): good cubes, "the literal
-- whose code is the vector's entry does not appear" in any, and each set of variables at most once, "s ascending". 001, property 2, says that a function has
-- one such form.
pub record Form (n p : ℕ) (l : List Cube) : Type 0 where
  pub good : All (Good n) l
  pub literals : All (λ c. (k : ℕ) → code c k ≢ bit p k) l
  pub ascending : Ascending 0 (map variables l)

-- ---- the choice

-- "The best polarity has the least cost, then the fewest products, then the smallest p" (document 02, Two)
unfoldable pub best_polarity : ℕ → (ℕ → ℕ) → ℕ
best_polarity n f = first_below (λ q p. cheaper (form_list n q f) (form_list n p f)) (2 ^ n)

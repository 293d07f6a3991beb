-- A cube by its literal codes, and when it is true. Document 01, "Cubes and lists"; 002, definition 3.3. Nothing here knows the width of a record.
-- Assumes nothing.
use Rattle.std.specs.Prelude.{◌≡◌, Bool, not, cond, ◌&&◌, ◌||◌, List, ℕ, zero, suc, ◌-◌, ◌^◌, ◌≤◌, ◌<◌, min, eqb, ltb}
use Rattle.std.specs.Int.Bits.{bit_and, bit_or, bit_xor}
use Rattle.bits.specs.Bits.{bit, with_bit, within}
use Rattle.bits.specs.Below.{all_below, those, sum_below}
use Rattle.bits.specs.Sums.{one_if}
use Rattle.cube.specs.declared.Cube.{Cube}

-- the code of a variable with seen bit s and value bit b: "Seen is set where a literal stands; value holds that literal's code"
abbrev pub code_of : ℕ → ℕ → ℕ
code_of zero b = 2
code_of (suc s) b = b

-- "A literal code at a variable is 0 for the complemented literal, 1 for the plain one, 2 for absent"
unfoldable pub code : Cube → ℕ → ℕ
code c k = code_of (bit c.seen k) (bit c.value k)

-- the seen bit and the value bit of a code
abbrev pub seen_bit : ℕ → ℕ
seen_bit x = one_if (ltb x 2)

abbrev pub value_bit : ℕ → ℕ
value_bit x = one_if (eqb x 1)

-- the cube with code x at variable v
unfoldable pub put : Cube → ℕ → ℕ → Cube
put c v x = record { seen = with_bit c.seen v (seen_bit x); value = with_bit c.value v (value_bit x) }

-- how many variables the masks of a cube have room for
abbrev pub mask_bits : ℕ
mask_bits = 32

-- the same, where v is one of the variables that the masks have room for; else the cube as it was
unfoldable pub with_code : Cube → ℕ → ℕ → Cube
with_code c v x = cond (ltb v mask_bits) (put c v x) c

-- "The product with no literal is the constant 1"
abbrev pub one : Cube
one = record { seen = 0; value = 0 }

-- a product has no literal: "Seen is set where a literal stands"
abbrev pub bare : Cube → Bool
bare c = eqb c.seen 0

-- "A value bit outside seen, or a seen bit at or above the variable count n, makes the record bad"
unfoldable pub good : ℕ → Cube → Bool
good n c = within c.value c.seen && ltb c.seen (2 ^ n)

-- the set of the variables below n, as far as the masks have room
unfoldable pub variables_below : ℕ → ℕ
variables_below n = 2 ^ min n mask_bits - 1

-- a good cube, bit by bit
pub record Good (n : ℕ) (c : Cube) : Type 0 where
  pub inside : (k : ℕ) → bit c.value k ≤ bit c.seen k
  pub below : (k : ℕ) → n ≤ k → bit c.seen k ≡ 0

-- the literal with code x is true where the variable is b
abbrev pub met : ℕ → ℕ → Bool
met x b = eqb x 2 || eqb x b

-- the product is true at the assignment a: each of its literals is
unfoldable pub holds : ℕ → Cube → ℕ → Bool
holds n c a = all_below n (λ k. met (code c k) (bit a k))

-- whether the product is true at a: of a good cube that, and of any cube what one masked comparison says
pub record HoldsAt (c : Cube) (a : ℕ) (r : Bool) : Type 0 where
  pub means : (n : ℕ) → Good n c → a < 2 ^ n → r ≡ holds n c a
  pub fixed : r ≡ eqb (bit_and c.seen a) c.value

-- two cubes differ in variable k: they have different codes there
abbrev pub differ_at : Cube → Cube → ℕ → Bool
differ_at c d k = not (eqb (code c k) (code d k))

-- the variables below n in which two cubes differ, ascending
unfoldable pub apart : ℕ → Cube → Cube → List ℕ
apart n c d = those (differ_at c d) n 0

-- "the number of differing variables" (document 02, Four): in how many of the variables below n they differ
unfoldable pub differing_number : ℕ → Cube → Cube → ℕ
differing_number n c d = sum_below n (λ k. one_if (differ_at c d k))

-- the bits in which the masks differ
unfoldable pub differing : Cube → Cube → ℕ
differing c d = bit_or (bit_xor c.seen d.seen) (bit_xor c.value d.value)

-- a set of variables: of good cubes those in which the codes differ, and of any cubes the bits in which the masks do
pub record DiffersIn (c d : Cube) (r : ℕ) : Type 0 where
  pub means : (n : ℕ) → Good n c → Good n d → (k : ℕ) → bit r k ≡ one_if (differ_at c d k)
  pub fixed : r ≡ differing c d

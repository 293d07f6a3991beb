-- The value of each output of a list of shared products, and all of them as one word. Document 02, Nine.
-- Assumes nothing.
use Rattle.std.specs.Prelude.{Bool, cond, List, [], ◌∷◌, ℕ, ◌*◌, ◌^◌, eqb}
use Rattle.bits.specs.Bits.{bit}
use Rattle.bits.specs.Below.{sum_below}
use Rattle.cube.specs.declared.Cube.{Cube}
use Rattle.cube.specs.Lists.{list_value}
use Rattle.shared.specs.declared.Shared.{Shared}

-- "bit k for output k": the product carries bit k
abbrev pub carries : ℕ → Shared → Bool
carries k r = eqb (bit r.outputs k) 1

-- "the products that carry bit k", in their order
unfoldable pub carrying : ℕ → List Shared → List Cube
carrying k [] = []
carrying k (r ∷ l) = cond (carries k r) (r.cube ∷ carrying k l) (carrying k l)

-- "Output k's value is the parity over the products that carry bit k"
unfoldable pub output_value : ℕ → ℕ → List Shared → ℕ → ℕ
output_value n k l a = list_value n (carrying k l) a

-- "four bytes of outputs, bit k for output k"
abbrev pub output_count : ℕ
output_count = 32

-- "the value call answers all 32 as one word": output k's value is bit k of it
unfoldable pub value_word : ℕ → List Shared → ℕ → ℕ
value_word n l a = sum_below output_count (λ k. output_value n k l a * 2 ^ k)

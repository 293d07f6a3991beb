-- The first pair of a list. Document 02, Three: "take the lowest i, then the lowest j above it, whose cubes are equal or differ in one variable".
-- Assumes nothing.
use Rattle.std.specs.Prelude.{◌≡◌, ◌⊎◌, Bool, true, List, ℕ, suc, ◌-◌, ◌≤◌, ◌<◌, ltb, leb, length}
use Rattle.bits.specs.Below.{first_from}
use Rattle.cube.specs.declared.Cube.{Cube}
use Rattle.cube.specs.Cubes.{differing_number}
use Rattle.steps.specs.Steps.{cube_at}

-- "equal or differ in one variable"
unfoldable pub pair : ℕ → Cube → Cube → Bool
pair n a b = leb (differing_number n a b) 1

-- so are the cubes at two places
abbrev pub pair_at : ℕ → List Cube → ℕ → ℕ → Bool
pair_at n l i j = pair n (cube_at l i) (cube_at l j)

-- "the lowest j above" i that makes a pair with it, or the count
unfoldable pub partner : ℕ → List Cube → ℕ → ℕ
partner n l i = first_from (pair_at n l i) (length l - suc i) (suc i)

-- "the lowest i" that has one, or the count
unfoldable pub lowest : ℕ → List Cube → ℕ
lowest n l = first_from (λ i. ltb (partner n l i) (length l)) (length l) 0

-- there is "such pair"
unfoldable pub has_pair : ℕ → List Cube → Bool
has_pair n l = ltb (lowest n l) (length l)

-- ---- the same, as it is said of two places

-- the cubes at i and at j, above it, make a pair
pub record IsPair (n : ℕ) (l : List Cube) (i j : ℕ) : Type 0 where
  pub above : i < j
  pub inside : j < length l
  pub near : pair_at n l i j ≡ true

-- and no pair has a lower i, nor the same i and a lower j
pub record First (n : ℕ) (l : List Cube) (i j : ℕ) : Type 0 where
  pub is : IsPair n l i j
  pub least : (r s : ℕ) → IsPair n l r s → (i < r) ⊎ ((i ≡ r) × (j ≤ s))

-- What every choice goes by, of polarities and in `settling` of candidates. Document 02, Two: "The card has a free inverter behind each array, so the
-- product without literals is free, once. Choices now go by cost".
-- Assumes nothing.
use Rattle.std.specs.Prelude.{Bool, ◌&&◌, ◌||◌, List, ℕ, ◌-◌, eqb, ltb, length}
use Rattle.bits.specs.Sums.{tally, one_if}
use Rattle.cube.specs.declared.Cube.{Cube}
use Rattle.cube.specs.Cubes.{bare}

-- "at least one of them has no literal"
abbrev pub some_bare : List Cube → Bool
some_bare l = ltb 0 (tally bare l)

-- "cost: the number of products, less one if at least one of them has no literal"
unfoldable pub cost : List Cube → ℕ
cost l = length l - one_if (some_bare l)

-- "the least cost, then the fewest products": a list comes before another that costs more, or that costs as much and has more products
unfoldable pub cheaper : List Cube → List Cube → Bool
cheaper l m = ltb (cost l) (cost m) || (eqb (cost l) (cost m) && ltb (length l) (length m))

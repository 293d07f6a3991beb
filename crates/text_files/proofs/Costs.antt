-- The cost of a list by what it counts.
-- Assumes nothing.
use mathlib.Core.Path.{◌≡◌, ap, ◌∙◌}
use mathlib.Core.Bool.{Bool, true, false}
use mathlib.Core.List.{List}
use Prim.Native.Nat.{ℕ, ◌-◌, ◌/◌, ◌≤◌, ◌<◌}
use native.Mathlib.Omega.{arith}
use lib.ListN.{length}
use Rattle.bits.specs.Sums.{one_if}
use Rattle.records.proofs.Records.{length_list}
use Rattle.cube.specs.declared.Cube.{Cube}
use Rattle.cube.specs.Lists.{cubes, cubes_of, most_records}
use Rattle.polarity.specs.declared.Counts.{Counts}
use Rattle.polarity.specs.Ranks.{counts_of}
use Rattle.polarity.specs.Cost.{cost}

-- how many records a list's bytes are
pub few : (b : List ℕ) → length b / 8 ≤ 4096 → length (cubes_of b) ≤ most_records
few b h = omega (arith, length_list cubes b)

pub not_few : (b : List ℕ) {r : ℕ} → 4096 < length b / 8 → length (cubes_of b) ≤ most_records → r ≡ cost (cubes_of b)
not_few b h k = omega (arith, length_list cubes b)

module _ (l : List Cube) {c : Counts} (e : c ≡ counts_of l) where
  pub cost_counted : cost l ≡ c.products - one_if c.constant
  unfolding cost counts_of
  cost_counted = rw e

  -- with a product that has no literal, and with none
  pub cost_less : c.constant ≡ true → cost l ≡ c.products - 1
  cost_less h = cost_counted ∙ ap (λ (s : Bool). c.products - one_if s) h

  pub cost_whole : c.constant ≡ false → cost l ≡ c.products
  cost_whole h =
      let less : cost l ≡ c.products - 0 = cost_counted ∙ ap (λ (s : Bool). c.products - one_if s) h in
      omega (arith, less)

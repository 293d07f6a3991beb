-- What a list costs, by what is counted of it.
-- Assumes nothing.
use mathlib.Core.Path.{◌≡◌, ap, subst, sym}
use mathlib.Core.List.{List}
use Prim.Native.Nat.{◌-◌, ◌≤◌}
use Rattle.bits.specs.Sums.{one_if}
use Rattle.cube.specs.declared.Cube.{Cube}
use Rattle.polarity.specs.declared.Counts.{Counts}
use Rattle.polarity.specs.Cost.{cost}
use Rattle.polarity.specs.Ranks.{counts_of}
use Rattle.polarity.proofs.Ranks.{free_one}

module _ (l : List Cube) (counts : Counts) (e : counts ≡ counts_of l) where
  pub free_fits : one_if counts.constant ≤ counts.products
  unfolding counts_of
  free_fits = subst (λ (c : Counts). one_if c.constant ≤ c.products) (sym e) (free_one l)

  pub cost_is : counts.products - one_if counts.constant ≡ cost l
  unfolding counts_of cost
  cost_is = ap (λ (c : Counts). c.products - one_if c.constant) e

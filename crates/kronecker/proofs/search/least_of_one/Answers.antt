-- `search::least_of_one` meets its contract.
-- Assumes nothing.
use mathlib.Core.Path.{ap}
use native.Mathlib.Omega.{arith}
use Rattle.kronecker.specs.declared.WrittenKronecker.{WrittenKronecker}
use Rattle.kronecker.proofs.search.Parts.{one_most, one_found}
use Rattle.kronecker.proofs.search.least_of_one.Goals as goal

pub lowest-positive-requires : goal.lowest-positive-requires
lowest-positive-requires c = (one_most _ _ c.requires).0

pub lowest-negative-requires : goal.lowest-negative-requires
lowest-negative-requires c = (one_most _ _ c.requires).1

pub lesser_from-requires : goal.lesser_from-requires
lesser_from-requires c = (omega arith, omega (arith, ap (λ (r : WrittenKronecker). r.choice) c.lowest-positive.ensures))

pub lesser_from-requires-2 : goal.lesser_from-requires-2
lesser_from-requires-2 c = (omega arith, omega (arith, ap (λ (r : WrittenKronecker). r.choice) c.lowest-negative.ensures))

pub returns : goal.returns
returns c =
    one_found _ _ c.requires _ _ _ _ _ c.lowest-shannon.ensures c.lowest-positive.ensures c.lowest-negative.ensures c.lesser_from.ensures c.lesser_from-2.ensures

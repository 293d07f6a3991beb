-- `search::choices` meets its contract: of at most 6 variables there are at most 729.
-- Assumes nothing.
use native.Mathlib.Omega.{arith}
use Rattle.kronecker.proofs.search.Ranges.{power_most}
use Rattle.kronecker.proofs.search.choices.Goals as goal

pub pow-requires : goal.pow-requires
pow-requires c = omega (arith, power_most c.args.n c.requires)

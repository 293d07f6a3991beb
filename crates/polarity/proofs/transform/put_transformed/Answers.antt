-- `transform::put_transformed` meets its contract.
-- Assumes nothing.
use mathlib.Core.Path.{◌∙◌}
use native.Mathlib.Omega.{arith}
use lib.Pow.{pow_mono}
use Rattle.polarity.proofs.transform.Turning.{shows_list}
use Rattle.polarity.proofs.transform.put_transformed.Goals as goal

pub put-requires : goal.put-requires
put-requires g c = omega (arith, c.requires.2, pow_mono {j = g.B.Bits.VARIABLES} c.requires.3)

pub returns : goal.returns
returns g c = c.put.ensures ∙ shows_list _ _ _ c.transformed-bits.ensures _ c.requires.2

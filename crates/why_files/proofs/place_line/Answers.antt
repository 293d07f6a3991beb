-- `place_line` is safe and ends: a number of two bytes has at most five digits.
-- Assumes nothing.
use native.Mathlib.Omega.{arith}
use Rattle.text.proofs.Numbers.{decimal_short}
use Rattle.why_files.proofs.place_line.Goals as goal

pub spell-end-requires : goal.spell-end-requires
spell-end-requires g c = omega (arith, decimal_short 4 c.args.place (omega (arith, c.ranges.place)))

-- `print::spell` meets its contract: the cube, and the newline after it.
-- Assumes nothing.
use Prim.Native.Nat.{◌<◌}
use native.Mathlib.Omega.{arith}
use lib.ListN.{length}
use Rattle.text.specs.Cubes.{cube_text}
use Rattle.text.proofs.Laying.{length_cube}
use Rattle.program.proofs.Texts.{line_counts, line_text_lem}
use Rattle.program.proofs.print.spell.Goals as goal

pub returns : goal.returns
returns c =
    let room : length (cube_text c.args.n c.args.c) < length c.args.line.now = omega (arith, length_cube c.args.n c.args.c, c.requires.1) in record { prefix_len = line_counts _ c.put_cube-end.ensures c.put_byte.ensures room; line_after = line_text_lem _ c.put_cube-end.ensures c.put_byte.ensures room }

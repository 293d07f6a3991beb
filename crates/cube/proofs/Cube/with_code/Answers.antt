-- `Cube::with_code` meets its contract.
-- Assumes nothing.
use mathlib.Core.Path.{sym, ◌∙◌}
use native.Mathlib.Omega.{arith}
use Rattle.cube.specs.Cubes.{put}
use Rattle.cube.proofs.Codes.{with_kept, with_put}
use Rattle.cube.proofs.Cube.with_code.Goals as goal

pub returns-then-v-ge-MASK_BITS : goal.returns-then-v-ge-MASK_BITS
returns-then-v-ge-MASK_BITS c = sym (with_kept _ _ _ c.if-v-ge-MASK_BITS.true)

pub returns : goal.returns
unfolding put
returns c = (λ k. record { seen = c.with_bit.ensures k; value = c.with_bit-2.ensures k }) ∙ sym (with_put _ _ _ (omega (arith, c.if-v-ge-MASK_BITS.false)))

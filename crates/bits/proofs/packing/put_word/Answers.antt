-- `packing::put_word` meets its contract.
-- Assumes nothing.
use mathlib.Core.Path.{refl}
use native.Mathlib.Omega.{arith}
use Rattle.bits.proofs.packing.Putting.{put_past, put_part}
use Rattle.bits.proofs.packing.put_word.Goals as goal

pub returns-then-size-eq0 : goal.returns-then-size-eq0
returns-then-size-eq0 c =
    let s = c.args in
    put_past s.w s.from s.out.now (omega (arith, c.bytes_from-size.ensures))

pub returns : goal.returns
returns c =
    let s = c.args in
    put_part s.w s.from s.out.now _ c.bytes_from-size.ensures c.if-size-eq0.false _ refl _ c.put_bits.ensures

-- `value::value_bits` meets its contract.
-- Assumes nothing.
use Rattle.cube.proofs.value.Valuing.{Valuing}
use Rattle.cube.proofs.value.value_bits.Given as goal

abbrev pub invariant-loop-i : goal.invariant-loop-i
invariant-loop-i l = Valuing l.list l.w l.i

-- `value::product_bits` meets its contract.
-- Assumes nothing.
use native.Mathlib.Omega.{arith}
use Rattle.cube.proofs.value.Valuing.{sliced_none, sliced_more, sliced_all}
use Rattle.cube.proofs.value.product_bits.Goals as goal

pub returns : goal.returns
returns c =
    let s = c.args.c in
    sliced_all s _
    (sliced_more s 7 _ _ (omega arith) (sliced_more s 6 _ _ (omega arith) (sliced_more s 5 _ _ (omega arith) (sliced_more s 4 _ _ (omega arith) (sliced_more s 3 _ _ (omega arith) (sliced_more s 2 _ _ (omega arith) (sliced_more s 1 _ _ (omega arith) (sliced_more s 0 _ _ (omega arith) (sliced_none s) c.with_literal-w0.ensures) c.with_literal-w1.ensures) c.with_literal-w2.ensures) c.with_literal-w3.ensures) c.with_literal-w4.ensures) c.with_literal-w5.ensures) c.with_literal-w6.ensures) c.with_literal.ensures)

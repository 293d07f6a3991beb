-- `settle::burn` meets its contract.
-- Assumes nothing.
use native.Mathlib.Omega.{arith}
use Rattle.shared_run.proofs.settle.Settling.{burn_given, burn_result}
use Rattle.shared_run.proofs.settle.burn.Goals as goal

pub returns-then-given-count : goal.returns-then-given-count
returns-then-given-count c = let both = burn_given c.args.list.now c.args.res.now _ c.requires.shared_width_len.0 c.requires.list_in_bounds (λ i. omega (arith, c.type_inv.list i)) (omega (arith, c.if-given-count.true)) _
    c.fill.ensures in record { value = both.0; out_after = both.1 }

pub returns : goal.returns
returns c = let both = burn_result c.args.list.now c.args.res.now _ c.requires.shared_width_len.0 c.requires.shared_width_len.1 c.requires.list_in_bounds (λ i. omega (arith, c.type_inv.res i))
    c.if-given-count.false _ c.fill-2.ensures in record { value = both.0; out_after = both.1 }

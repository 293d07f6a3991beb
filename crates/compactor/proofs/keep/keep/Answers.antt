-- `keep::keep` meets its contract.
-- Assumes nothing.
use mathlib.Core.Path.{sym, ap}
use mathlib.Core.Bool.{Bool}
use native.Mathlib.Omega.{arith}
use Rattle.compactor.specs.Keeping.{top_after, kept_after}
use Rattle.compactor.proofs.keep.keep.Goals as goal

pub overflow_sub-result : goal.overflow_sub-result
overflow_sub-result c = omega (arith, c.requires.2 c.if-off.true)

pub returns-then-off : goal.returns-then-off
returns-then-off c =
    let a = c.args in record { value = ap (λ (b : Bool). top_after b a.top) (sym c.if-off.true); kept_after = ap (λ (b : Bool). kept_after b a.kept.now a.top a.k) (sym c.if-off.true) }

pub returns : goal.returns
returns c =
    let a = c.args in record { value = ap (λ (b : Bool). top_after b a.top) (sym c.if-off.false); kept_after = ap (λ (b : Bool). kept_after b a.kept.now a.top a.k) (sym c.if-off.false) }

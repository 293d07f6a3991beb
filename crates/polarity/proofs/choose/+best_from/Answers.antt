-- The proof of the cycle of calls {best_from}. The measure is k, the number of variables left.
-- Assumes nothing.
use native.Mathlib.Omega.{arith}
use Rattle.polarity.proofs.choose.Search.{best_at, half_is, half_next, halves_are}
use Rattle.polarity.proofs.choose.+best_from.Goals as goal

pub returns : goal.returns
returns g t c =
    best_at _ c.args.k _ (half_next c.args.k (omega arith) (λ e. omega arith)) _ _
    (halves_are _ _ _ (half_is c.args.k (omega arith) (λ e. omega arith)) _ _ c.lowered.ensures _ _ _
    c.best_from.ensures c.best_from-2.ensures c.lesser_of.ensures)

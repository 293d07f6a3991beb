-- `steps::decide::decide_split` meets its contract.
-- Assumes nothing.
use native.Mathlib.Omega.{arith}
use Rattle.steps.proofs.decide.Deciding.{split_place, split_full, split_halves}
use Rattle.steps.proofs.decide.decide_split.Goals as goal

pub returns-then-count-i : goal.returns-then-count-i
returns-then-count-i c = search split_place

pub returns-then-cap-count : goal.returns-then-cap-count
returns-then-cap-count c = split_full _ _ _ _ _ (omega arith) (omega arith) _ c.refuse-then-cap-count.ensures

pub returns : goal.returns
returns c =
    split_halves _ _ _ _ _ (omega arith) (omega arith) c.requires _ _ _ c.code_at-x.ensures c.lower.ensures
    c.higher.ensures _ _ c.with_code.ensures c.with_code-2.ensures

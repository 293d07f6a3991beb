-- `steps::decide::misplaced` meets its contract.
-- Assumes nothing.
use native.Mathlib.Omega.{arith}
use Rattle.steps.proofs.decide.Deciding.{places_first, places_second, places_equal, places_fine}
use Rattle.steps.proofs.decide.misplaced.Goals as goal

pub returns-then-count-i : goal.returns-then-count-i
returns-then-count-i c = (search places_first, λ e. omega arith)

pub returns-then-count-j : goal.returns-then-count-j
returns-then-count-j c = (search places_second, λ e. omega arith)

pub returns-then-i-j : goal.returns-then-i-j
returns-then-i-j c = (search places_equal, λ e. omega arith)

pub returns : goal.returns
returns c = search places_fine

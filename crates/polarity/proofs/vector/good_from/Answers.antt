-- `vector::good_from` meets its contract.
-- Assumes nothing.
use mathlib.Core.Path.{sym, ◌∙◌}
use Rattle.polarity.proofs.vector.Tests.{passed_all, passed_one}
use Rattle.polarity.proofs.vector.good_from.Goals as goal

pub returns-then-stride_good : goal.returns-then-stride_good
returns-then-stride_good c = passed_all _ _ (sym c.stride_good.ensures ∙ c.if-stride_good.true)

pub returns : goal.returns
returns c = passed_one _ _ (sym c.stride_good.ensures ∙ c.if-stride_good.false)

-- `list::good_from` meets its contract.
-- Assumes nothing.
use mathlib.Core.Path.{refl, sym, ◌∙◌}
use Rattle.records.specs.Kinds.{stride}
use Rattle.records.proofs.Striding.{stride_all, stride_one}
use Rattle.records.proofs.list.good_from.Goals as goal

pub returns-then-stride_good : goal.returns-then-stride_good
returns-then-stride_good g c = stride_all g.K.Kind.codec (g.K.Kind.good c.args.n) _ stride _ (sym c.stride_good.ensures ∙ c.if-stride_good.true)

pub returns : goal.returns
returns g c =
    stride_one g.K.Kind.codec (g.K.Kind.good c.args.n) _ stride _ (sym c.stride_good.ensures ∙ c.if-stride_good.false) _ refl _ c.good_at.ensures

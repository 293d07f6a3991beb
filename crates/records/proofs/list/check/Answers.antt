-- `list::check` meets its contract: each return is the first test that fails.
-- Assumes nothing.
use mathlib.Core.Path.{refl, ap, ◌∙◌}
use Rattle.std.proofs.Common.{rules}
use mathlib.Core.List.{[], ◌∷◌}
use Rattle.records.specs.Answers.{refusal, accepted}
use Rattle.records.specs.Reasons.{number_of}
use Rattle.records.proofs.Checks.{records_bad, records_good}
use Rattle.records.proofs.list.check.Goals as goal

pub returns-then-bad-count : goal.returns-then-bad-count
returns-then-bad-count g c =
    let k = g.K.Kind in
    records_bad k.codec (k.good c.args.n) (number_of k.CUT_SHORT) (number_of k.TOO_MANY) (number_of k.BAD) k.MOST c.args.list.now _ refl
    (search rules) (search rules) _ c.first_bad-bad.ensures _ (c.at-then-bad-count.ensures ∙ ap (λ r. refusal (number_of r) c.first_bad-bad.result) c.BAD.ensures) (search rules)

pub returns : goal.returns
returns g c =
    let k = g.K.Kind in
    ap (λ n. accepted (n ∷ [])) c.count-count.ensures
    ∙ records_good k.codec (k.good c.args.n) (number_of k.CUT_SHORT) (number_of k.TOO_MANY) (number_of k.BAD) k.MOST c.args.list.now _ refl
    (search rules) (search rules) _ c.first_bad-bad.ensures (search rules)

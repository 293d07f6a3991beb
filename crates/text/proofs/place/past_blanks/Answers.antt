-- `place::past_blanks` meets its contract.
-- Assumes nothing.
use mathlib.Core.Path.{ap, ◌∙◌}
use Prim.Native.Nat.{◌+◌}
use lib.ListN.{drop}
use Rattle.std.proofs.Common.{rules, tests}
use Rattle.std.proofs.lemmas.Iterator.{YieldsList-from_slice}
use Rattle.std.proofs.lemmas.Iterator.Consumers.{count_from_yields_List}
use Rattle.std.proofs.lemmas.Iterator.Search.{YieldsList-from_take_while}
use Rattle.std.proofs.lemmas.List.Folds.{length-prefix_len}
use Rattle.text.specs.Blanks.{blank}
use Rattle.text.proofs.Reading.{blanks_prefix}
use Rattle.text.proofs.place.past_blanks.Goals as goal

pub returns : goal.returns
returns c =
    let s = drop c.args.at c.args.text.now in
    let many =
    count_from_yields_List c.take_while.result _ c.count.ensures.ran (YieldsList-from_take_while _ blank (YieldsList-from_slice s cc) c.take_while.ensures.closure c.take_while.ensures.done (λ x b q k. search (rules, tests)))
    ∙ length-prefix_len blank s ∙ blanks_prefix s in
    ap (λ n. c.args.at + n) many

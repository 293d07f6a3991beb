-- `value::word_at` meets its contract: the loop keeps `Wording`.
-- Assumes nothing.
use borrow.Author.Rules.{rules}
use Rattle.shared.proofs.value.Wording.{wording_step, wording_all, holds_here}
use Rattle.shared.proofs.value.word_at.Goals as goal

pub loop-i-preserved : goal.loop-i-preserved
loop-i-preserved c =
    let r = c.record_at-s in
    let true_there = holds_here c.args.n c.args.list.now c.args.a c.loop-i.i c.requires.all c.requires.a_bound c.loop-i-test.true
    r.result r.ensures c.holds_at.result c.holds_at.ensures in
    wording_step _ _ _ _ _ c.loop-i.invariant c.loop-i-test.true r.result r.ensures c.holds_at.result true_there (search rules) _ (search rules)

pub returns : goal.returns
returns c = wording_all _ _ _ _ _ c.loop-i.invariant c.loop-i-test.false

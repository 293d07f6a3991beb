-- `write::do_pair` meets its contract: what is dropped or joined is what the step leaves.
-- Assumes nothing.
use mathlib.Core.Path.{refl}
use Rattle.writer.proofs.Writing.{make_two, make_held, pair_dropped, pair_joined}
use Rattle.writer.proofs.write.do_pair.Goals as goal

pub record_at-a-requires : goal.record_at-a-requires
record_at-a-requires c = (make_held _ _ _ _ _ c.requires.first c.requires.ready.held).0

pub record_at-b-requires : goal.record_at-b-requires
record_at-b-requires c = (make_held _ _ _ _ _ c.requires.first c.requires.ready.held).1

pub drop_both-requires : goal.drop_both-requires
drop_both-requires c = record { held = c.requires.ready.held; two_places = make_two _ _ _ _ _ c.requires.first }

pub returns-then-set-eq0 : goal.returns-then-set-eq0
returns-then-set-eq0 c = let both = pair_dropped _ _ _ _ _ c.requires.first c.requires.ready _ _ c.record_at-a.ensures c.record_at-b.ensures _ c.differing-set.ensures c.if-set-eq0.true _ _
    c.drop_both.ensures.value c.drop_both.ensures.work_after in record { value = both.0; work_after = both.1 }

pub join_both-requires : goal.join_both-requires
join_both-requires c = record { held = c.requires.ready.held; two_places = make_two _ _ _ _ _ c.requires.first }

pub returns : goal.returns
returns c = let both = pair_joined _ _ _ _ _ c.requires.first c.requires.ready _ _ c.record_at-a.ensures c.record_at-b.ensures _ c.differing-set.ensures c.if-set-eq0.false _ refl
    _ c.third_at.ensures _ _ c.join_both.ensures.value c.join_both.ensures.work_after in record { value = both.0; work_after = both.1 }

-- `write::write_steps` meets its contract: the loop keeps `Writing`.
-- Assumes nothing.
use native.Mathlib.Omega.{arith}
use lib.ListN.{length-set}
use Rattle.writer.proofs.Writing.{make_places, writing_none, writing_end, writing_limit, writing_more}
use borrow.Author.Rules.{rules}
use Rattle.writer.proofs.write.write_steps.Goals as goal

pub loop-k-init : goal.loop-k-init
loop-k-init c = writing_none _ _ _ _ _ c.requires.ready c.requires.unmarked

pub find-requires : goal.find-requires
find-requires c = let v = c.loop-k.invariant in record { ready = v.ready; count_in_bounds = omega (arith, v.room, v.marks_long); watched = v.watched }

pub make-count-requires : goal.make-count-requires
make-count-requires c =
    let v = c.loop-k.invariant in
    record { ready = v.ready; count_le_most_records = omega (arith, v.few, c.requires.first_le_most_records); first = c.in-Some.ensures.first }

pub bounds-marks-i : goal.bounds-marks-i
bounds-marks-i c =
    let v = c.loop-k.invariant in
    let p = make_places _ _ _ _ _ c.in-Some.ensures.first in omega (arith, v.room, v.marks_long, p.0)

pub bounds-marks-j : goal.bounds-marks-j
bounds-marks-j c =
    let v = c.loop-k.invariant in
    let p = make_places _ _ _ _ _ c.in-Some.ensures.first in simp length-set (omega (arith, v.room, v.marks_long, p.1))

pub loop-k-preserved : goal.loop-k-preserved
loop-k-preserved c =
    writing_more _ _ _ _ _ _ _ _ _ _ _ c.loop-k.invariant _ _ c.in-Some.ensures (omega (arith, c.loop-k-test.true)) (search rules) _ _ _ c.make-count.ensures

pub returns-in_default : goal.returns-in_default
returns-in_default c = writing_end _ _ _ _ _ _ _ _ _ _ _ c.loop-k.invariant c.in_default.ensures

pub returns : goal.returns
returns c =
    let found = writing_limit _ _ _ _ _ _ _ _ _ _ _ c.loop-k.invariant (omega (arith, c.loop-k-test.false)) _ _ c.find-2.ensures in search (found, rules)

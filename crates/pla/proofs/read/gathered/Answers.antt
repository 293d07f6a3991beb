-- `read::gathered` meets its contract: what each line does to what is read so far. The measure is what is left of the text.
-- Assumes nothing.
use borrow.Author.Rules.{rules}
use native.Mathlib.Nat.{le_of_lt}
use native.Mathlib.Omega.{arith}
use Rattle.lines.proofs.Lines.{line_end_least, line_end_within}
use Rattle.pla.proofs.Reading.{reading_none, reading_place, reading_knows, reading_passes, reading_takes, reading_full, reading_bad, reading_over, reading_end}
use Rattle.pla.proofs.read.gathered.Goals as goal

pub loop-at-init : goal.loop-at-init
loop-at-init c = search (reading_none, rules)

pub slice_bounds-line_says-count : goal.slice_bounds-line_says-count
slice_bounds-line_says-count c = search (line_end_least, rules)

pub slice_bounds-line_says-start : goal.slice_bounds-line_says-start
slice_bounds-line_says-start c = search (line_end_least, rules)

pub slice_bounds-line_says-end : goal.slice_bounds-line_says-end
slice_bounds-line_says-end c = line_end_within c.args.text.now c.loop-at.at c.line_end-end.ensures (le_of_lt c.loop-at-test.true)

pub overflow_add-at : goal.overflow_add-at
overflow_add-at c = omega (arith, line_end_within c.args.text.now c.loop-at.at c.line_end-end.ensures (le_of_lt c.loop-at-test.true))

pub returns-in-Err : goal.returns-in-Err
returns-in-Err c = let both = reading_bad c.loop-at.invariant c.loop-at-test.true c.line_end-end.ensures c.line_says.result c.line_says.ensures c.requires.text_len_bound c.in-Err.is c.at.ensures in record { result_value = both.0; kept = both.1 }

pub returns-in-Over : goal.returns-in-Over
returns-in-Over c = let both = reading_over c.loop-at.invariant c.loop-at-test.true c.line_end-end.ensures c.line_says.result c.line_says.ensures c.requires.text_len_bound c.in-Ok.is c.in-Over.is c.finished.result c.finished.ensures in record { result_value = both.0; kept = both.1 }

pub loop-at-preserved-in-Knows : goal.loop-at-preserved-in-Knows
loop-at-preserved-in-Knows c = search (reading_knows, rules)

pub returns-then-room-count : goal.returns-then-room-count
returns-then-room-count c = let both = reading_full c.loop-at.invariant c.loop-at-test.true c.line_end-end.ensures c.line_says.result c.line_says.ensures c.in-Ok.is c.in-Has.is c.if-s-ne0.true c.capacity-room.ensures c.requires.text_len_bound (omega (arith, c.if-room-count.true)) c.at-then-room-count.ensures in record { result_value = both.0; kept = both.1 }

pub put_record-requires : goal.put_record-requires
put_record-requires c = search (reading_place, rules)

pub loop-at-preserved-then-s-ne0 : goal.loop-at-preserved-then-s-ne0
loop-at-preserved-then-s-ne0 c = search (reading_takes, rules)

pub loop-at-preserved : goal.loop-at-preserved
loop-at-preserved c = search (reading_passes, rules)

pub returns : goal.returns
returns c = let both = reading_end c.loop-at.invariant c.requires.text_len_bound c.loop-at-test.false c.finished-2.result c.finished-2.ensures in record { result_value = both.0; kept = both.1 }

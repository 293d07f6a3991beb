-- `find::scan` meets its contract: the loop keeps `Rows`.
-- Assumes nothing.
use native.Mathlib.Omega.{arith}
use Rattle.writer.proofs.Scanning.{rows_none, rows_end, rows_found, rows_more}
use Rattle.writer.proofs.find.scan.Goals as goal

pub loop-i-init : goal.loop-i-init
loop-i-init c = rows_none _ _ _ _ _ c.requires.watched

pub bounds-marks-i : goal.bounds-marks-i
bounds-marks-i c = omega (arith, c.loop-i.invariant.long)

pub returns-then-j-count : goal.returns-then-j-count
returns-then-j-count c =
    rows_found _ _ _ _ _ _ c.loop-i.invariant c.loop-i-test.true _ c.look-j.ensures c.if-j-count.true

pub loop-i-preserved : goal.loop-i-preserved
loop-i-preserved c =
    rows_more _ _ _ _ _ _ c.loop-i.invariant c.loop-i-test.true _ c.look-j.ensures c.if-j-count.false

pub returns : goal.returns
returns c = rows_end _ _ _ _ _ _ c.loop-i.invariant c.loop-i-test.false

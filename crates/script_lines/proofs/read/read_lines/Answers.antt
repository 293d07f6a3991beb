-- `read::read_lines` meets its contract. The invariant: the buffer holds the steps so far, and zeros after them; the measure is what is left of the text.
-- Assumes nothing.
use Rattle.script_lines.proofs.Gathered.{reading_none, reading_more, end_told, end_held, line_told, line_cleared}
use Rattle.lines.proofs.Lines.{line_end_within}
use borrow.Author.Rules.{rules}
use native.Mathlib.Omega.{arith}
use Rattle.script_lines.proofs.read.read_lines.Goals as goal

pub loop-at-init : goal.loop-at-init
loop-at-init c = search (reading_none, rules)

pub slice_bounds-take_line-end : goal.slice_bounds-take_line-end
slice_bounds-take_line-end c = line_end_within c.args.text.now c.loop-at.at c.line_end-end.ensures (search rules)

pub returns-in-Err : goal.returns-in-Err
returns-in-Err c = record { result_value = search (line_told, line_cleared, rules); out_after = search (line_told, line_cleared, rules) }

pub overflow_add-at : goal.overflow_add-at
overflow_add-at c =
    let within = line_end_within c.args.text.now c.loop-at.at c.line_end-end.ensures (omega arith) in
    search rules

pub loop-at-preserved : goal.loop-at-preserved
loop-at-preserved c = search (reading_more, rules)

pub returns : goal.returns
returns c = record { result_value = search (end_told, end_held, rules); out_after = search (end_told, end_held, rules) }

-- `product::spelt` meets its contract.
-- Assumes nothing.
use Rattle.pla.proofs.Products.{spelling_none, spelling_blank, code_other, code_more, too_many, output_other, output_added, output_more, spelt_end}
use borrow.Author.Rules.{rules}
use Rattle.pla.proofs.product.spelt.Goals.{then-k-n+in_ok-code_of, else-k-n+then-k-n-2+in_ok-outputs}
use Rattle.pla.proofs.product.spelt.Goals as goal

pub loop-b-init : goal.loop-b-init
loop-b-init c = search (spelling_none, rules)

pub loop-b-preserved-then-is_blank : goal.loop-b-preserved-then-is_blank
loop-b-preserved-then-is_blank c = search (spelling_blank, rules)

pub returns-in_err-code_of : goal.returns-in_err-code_of
returns-in_err-code_of c = rw c.from_residual.ensures (code_other c.loop-b.invariant c.loop-b-test.true c.is_blank.ensures c.if-is_blank.false c.if-k-n.true c.in_err-code_of.ensures)

pub returns-in_err-outputs : goal.returns-in_err-outputs
returns-in_err-outputs c =
    rw c.from_residual-in_err-outputs.ensures (output_other c.loop-b.invariant c.loop-b-test.true c.is_blank.ensures c.if-is_blank.false c.if-k-n.false c.if-k-n-2.true c.in_err-outputs.ensures)

pub overflow_add-outputs : goal.overflow_add-outputs
overflow_add-outputs c = search (output_added, rules)

pub returns-else-k-n-2 : goal.returns-else-k-n-2
returns-else-k-n-2 c = search (too_many, rules)

pub loop-b-preserved : goal.loop-b-preserved
loop-b-preserved c =
    elim c.if-k-n.branch [
      | then-k-n+in_ok-code_of w ↦ rw (w.cube-is, w.outputs-is) (code_more c.loop-b.invariant c.loop-b-test.true c.is_blank.ensures c.if-is_blank.false w.if-k-n.true w.in_ok-code_of.ensures w.with_code-cube.ensures)
      | else-k-n+then-k-n-2+in_ok-outputs w ↦ rw (w.cube-is, w.outputs-is) (output_more c.loop-b.invariant c.loop-b-test.true c.is_blank.ensures c.if-is_blank.false w.if-k-n.false w.if-k-n-2.true w.in_ok-outputs.ensures c.requires.1)
    ]

pub returns : goal.returns
returns c = search (spelt_end, rules)

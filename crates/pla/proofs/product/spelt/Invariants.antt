-- `product::spelt` meets its contract. The invariant: what is read from here on is what is read of the whole line.
-- Assumes nothing.
use Rattle.pla.proofs.Products.{Spelling}
use Rattle.pla.proofs.product.spelt.Given as goal

abbrev pub invariant-loop-b : goal.invariant-loop-b
invariant-loop-b l = Spelling l.n l.m l.line l.cube l.outputs l.k l.b-index

-- `node::stays_free` meets its contract.
-- Assumes nothing.
use Rattle.trees.proofs.node.stays_free.Goals as goal

pub returns-then-free : goal.returns-then-free
returns-then-free c = rw (c.if-free.true, c.first_code.ensures)

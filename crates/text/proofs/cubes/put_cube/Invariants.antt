-- `cubes::put_cube` meets its contract. The invariant: the codes of the variables passed are laid.
-- Assumes nothing.
use Rattle.text.proofs.Laying.{Spelt}
use Rattle.text.proofs.cubes.put_cube.Given as goal

abbrev pub invariant-loop-k : goal.invariant-loop-k
invariant-loop-k l = Spelt l.n l.c l.initial.out l.at l.p l.out l.k

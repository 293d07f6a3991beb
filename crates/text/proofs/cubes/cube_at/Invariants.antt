-- `cubes::cube_at` meets its contract. The invariant: what is read from here on is what is read of the whole.
-- Assumes nothing.
use Rattle.text.proofs.Reading.{Coding}
use Rattle.text.proofs.cubes.cube_at.Given as goal

abbrev pub invariant-loop-k : goal.invariant-loop-k
invariant-loop-k l = Coding l.n l.text l.at l.c l.p l.k

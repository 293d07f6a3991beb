-- `choose::best_of_all` meets its contract.
-- Assumes nothing.
use Rattle.polarity.proofs.Vectors.{vector_fits}
use Rattle.polarity.proofs.choose.Search.{best_all, best_at}
use Rattle.polarity.proofs.choose.best_of_all.Goals as goal

pub of-requires : goal.of-requires
of-requires g c = vector_fits _ _ _ c.requires.0 c.requires.1

pub returns-in-0 : goal.returns-in-0
returns-in-0 g c = best_all _ _ c.requires.0 _ _ _ c.of.ensures c.raised_below-w.ensures (best_at 0 _ _ c.in-0.is _ _ c.best_of_one.ensures)

pub returns-in-1 : goal.returns-in-1
returns-in-1 g c = best_all _ _ c.requires.0 _ _ _ c.of.ensures c.raised_below-w.ensures (best_at 1 _ _ c.in-1.is _ _ c.best_of_two.ensures)

pub returns-in-2 : goal.returns-in-2
returns-in-2 g c = best_all _ _ c.requires.0 _ _ _ c.of.ensures c.raised_below-w.ensures (best_at 2 _ _ c.in-2.is _ _ c.best_of_four.ensures)

pub returns-in_default : goal.returns-in_default
returns-in_default g c = best_all _ _ c.requires.0 _ _ _ c.of.ensures c.raised_below-w.ensures c.best_from.ensures

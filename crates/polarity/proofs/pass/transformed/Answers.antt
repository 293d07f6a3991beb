-- `pass::transformed` meets its contract.
-- Assumes nothing.
use Rattle.polarity.proofs.Vectors.{vector_fits}
use Rattle.polarity.proofs.transform.Turning.{transformed_there, transformed_back}
use Rattle.polarity.proofs.pass.transformed.Goals as goal

pub of-bits-requires : goal.of-bits-requires
of-bits-requires g c = vector_fits _ _ _ c.requires.0 c.requires.2

pub returns-then-back : goal.returns-then-back
returns-then-back g c =
    transformed_back _ _ _ c.requires.0 c.requires.1 _ c.of-bits.ensures _ _ _ c.if-back.true c.turned_by.ensures c.raised_below.ensures

pub returns : goal.returns
returns g c =
    transformed_there _ _ _ c.requires.0 c.requires.1 _ c.of-bits.ensures _ _ _ c.if-back.false c.raised_below-2.ensures c.turned_by-2.ensures

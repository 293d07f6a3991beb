-- `vector::check_vector` meets its contract: each return is the first test that fails.
-- Assumes nothing.
use mathlib.Core.Path.{refl}
use Rattle.polarity.proofs.vector.Tests.{vector_1, vector_14, vector_byte, vector_0}
use Rattle.polarity.proofs.vector.check_vector.Goals as goal

pub returns-then-n-gt-VECTOR_VARIABLES : goal.returns-then-n-gt-VECTOR_VARIABLES
returns-then-n-gt-VECTOR_VARIABLES c = search vector_1

pub returns-then-bytes-m : goal.returns-then-bytes-m
returns-then-bytes-m c = vector_14 _ _ _ c.if-n-gt-VECTOR_VARIABLES.false refl _ c.at-then-bytes-m.ensures c.if-bytes-m.true

pub returns-then-bad-m : goal.returns-then-bad-m
returns-then-bad-m c = search vector_byte

pub returns : goal.returns
returns c = search vector_0

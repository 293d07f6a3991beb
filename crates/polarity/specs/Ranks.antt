-- Inside: what the code counts of a list, and the one number that it chooses by. No call of documents 01 and 02 needs it to be read: that the number decides
-- the order of `Cost.antt` is a law (`cheaper_rank`, `polarity/proofs/Ranks.antt`).
-- Assumes nothing.
use Rattle.std.specs.Prelude.{not, List, ℕ, ◌+◌, ◌*◌, length}
use Rattle.bits.specs.Sums.{one_if}
use Rattle.cube.specs.declared.Cube.{Cube}
use Rattle.polarity.specs.Cost.{some_bare}
use Rattle.polarity.specs.declared.Counts.{Counts}

-- how many products a list has, and whether one of them has no literal
unfoldable pub counts_of : List Cube → Counts
counts_of l = record { products = length l; constant = some_bare l }

-- twice the products, and one more where none of them is free; of a list, one more than its cost and its products together
abbrev pub rank_of : Counts → ℕ
rank_of c = 2 * c.products + one_if (not c.constant)

abbrev pub rank : List Cube → ℕ
rank l = rank_of (counts_of l)

-- What it means that a node's expansion is the first of those that cost least, and that two lists have the same products; and the list that a call wrote. Document 02,
-- Six, and 002, section 2.
-- Assumes nothing.
use Rattle.std.specs.Prelude.{◌≡◌, Bool, List, ℕ, ◌*◌, ◌≤◌, ◌<◌, take}
use Rattle.bits.specs.Sums.{tally}
use Rattle.cube.specs.declared.Cube.{Cube}
use Rattle.cube.specs.Lists.{record_width}
use Rattle.trees.specs.declared.Expansion.{Expansion}
use Rattle.trees.specs.declared.Expansion.TheVariants.{Shannon, Positive, Negative}

-- "by Shannon, positive Davio or negative Davio"
abbrev pub order : Expansion → ℕ
order Shannon = 0
order Positive = 1
order Negative = 2

-- "Ties at a node go to the first of that order": e costs least, and each that comes before it costs more
pub record FirstLeast (costs : Expansion → ℕ) (e : Expansion) : Type 0 where
  pub least : (d : Expansion) → costs e ≤ costs d
  pub first : (d : Expansion) → order d < order e → costs e < costs d

-- the list that a call wrote to a buffer: its front, 8 bytes for each product that is answered
abbrev pub list_in : ℕ → List ℕ → List ℕ
list_in products buffer = take (record_width * products) buffer

-- two lists have the same products, each as often, in whatever order: of both as many pass any test
abbrev pub SameProducts : List Cube → List Cube → Type 0
SameProducts l m = (test : Cube → Bool) → tally test l ≡ tally test m

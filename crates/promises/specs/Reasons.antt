-- What it means that exactly the true products are shown. Document 02, One: "Prove that exactly the true products are shown".
-- Assumes nothing.
use Rattle.std.specs.Prelude.{◌≡◌, true, ℕ, ◌<◌, length, get_or}
use mathlib.Core.List.{List, Memᴰ}
use Rattle.bits.specs.Below.{Ascending}
use Rattle.records.specs.Records.{records}
use Rattle.records.specs.Places.{places}
use Rattle.cube.specs.declared.Cube.{Cube}
use Rattle.cube.specs.Cubes.{one, holds}

-- the places that were written: "2 bytes each, to a lent buffer", as many as the call answers
abbrev pub shown_in : ℕ → List ℕ → List ℕ
shown_in number out' = records places number out'

-- "exactly the true products are shown", "ascending"; `Memᴰ p shown` says that p is among those shown
pub record ExactlyTrue (n : ℕ) (l : List Cube) (a : ℕ) (shown : List ℕ) : Type 0 where
  -- none else: what is shown is a place of the list, whose product is true at a
  pub true_there : (p : ℕ) → Memᴰ p shown → (p < length l) × (holds n (get_or l p one) a ≡ true)
  -- each true one
  pub each_shown : (p : ℕ) → p < length l → holds n (get_or l p one) a ≡ true → Memᴰ p shown
  -- ascending, and so none twice
  pub ascending : Ascending 0 shown

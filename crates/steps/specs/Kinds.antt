-- Inside: what is asked of a kind of record whose steps are decided.
-- Assumes nothing.
use Rattle.std.specs.Prelude.{◌≡◌, ℕ, List, map, ◌<◌, length, get_or}
use Rattle.records.specs.Records.{Codec, list_of, stored}
use Rattle.cube.specs.Lists.{most_variables}
use Rattle.orders.specs.Orders.{letter_order}
use Rattle.steps.specs.declared.StepRecord.{StepRecord}
use Rattle.steps.specs.declared.reorder.Masks.{Masks}
use Rattle.steps.specs.Moves.{Move, After, next, applied}
use Rattle.steps.specs.Changes.{Placed, masks_at}

-- what is decided of a step σ at the places i and j, where the records a and b stand: its places are places of the list, and made there it is the step
pub record DecidedOn {A : Type 0} (C : Codec A) (σ : List A → After A) (count cap i j : ℕ) (a b : A) (m : Move A) : Type 0 where
  pub placed : Placed count cap i j m
  pub is : (l : List A) → length l ≡ count → a ≡ get_or l i C.none → b ≡ get_or l j C.none → σ l ≡ applied C.none i j l m

-- the record at place i has its code at v moved by the order o, where the masks are that order's at v
pub record Recoded {A : Type 0} (C : Codec A) (moved : ℕ → ℕ → A → A) (masks : Masks) (i : ℕ) (b b' : List ℕ) : Type 0 where
  pub is : (v o : ℕ) → v < most_variables → masks ≡ masks_at v o → b' ≡ stored C b i (moved v o (get_or (list_of C b) i C.none))

-- an L step, on any list, moves every record's code at its variable by its literal's order
pub record IsLetter {A : Type 0} (σ : List A → After A) (moved : ℕ → ℕ → A → A) (n : ℕ) (x : StepRecord) : Type 0 where
  pub below : x.v < n
  pub is : (l : List A) → σ l ≡ next (map (moved x.v (letter_order x.literal)) l)

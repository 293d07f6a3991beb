-- Inside: the index kept up beside the work list, which the inner functions of the run answer one another.
-- Assumes nothing.
use Rattle.std.specs.Prelude.{◌≡◌, List, ℕ, ◌*◌, ◌≤◌, length, Result}
use Rattle.script.specs.declared.Peaked.{Peaked}
use Rattle.records.specs.declared.Refusal.{Refusal}
use Rattle.records.specs.Places.{place_width}
use Rattle.cube.specs.declared.Cube.{Cube}
use Rattle.cube.specs.Lists.{most_records}
use Rattle.script.specs.Calls.{run_of, ran_outcome, ran_work, finished}
use Rattle.steps.specs.Moves.{next}
use Rattle.index.specs.Counting.{ClearBehind}
use Rattle.indexed.specs.Calls.{index_advanced, ran_index, ran_starts}

-- the index of a list, and zeros after it, in a buffer that has room for the index of every list that a work buffer with room for cap cubes can hold
pub record IndexKept (cap : ℕ) (l : List Cube) (index : List ℕ) : Type 0 where
  pub few : length l ≤ cap
  pub most : cap ≤ most_records
  pub fits : place_width * cap ≤ length index
  pub is : index ≡ index_advanced (length index) (next l)
  pub behind : ClearBehind (length l) index

-- the run of an accepted list and script: the answer and the starts, and both buffers after it
pub record AnsweredIndexed (n : ℕ) (list script work index work' index' : List ℕ) (r : Result Peaked Refusal) (starts : List ℕ) : Type 0 where
  pub answer : finished r ≡ ran_outcome (run_of n list script (length work))
  pub buffer : work' ≡ ran_work (length work) (run_of n list script (length work))
  pub kept : index' ≡ ran_index (length index) (run_of n list script (length work))
  pub begins : starts ≡ ran_starts (run_of n list script (length work))

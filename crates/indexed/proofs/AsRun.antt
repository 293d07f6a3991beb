-- The run with an index and run: "A sibling of run". Where the index buffer has room for the work buffer's capacity it answers what run answers, and leaves in the
-- work buffer what run leaves.
-- Assumes nothing.
use mathlib.Core.Path.{◌≡◌, ap}
use mathlib.Core.List.{List}
use Prim.Native.Nat.{ℕ, ◌*◌, ◌≤◌}
use lib.ListN.{length}
use Rattle.records.specs.Places.{place_width}
use Rattle.records.specs.Answers.{Outcome, and_then}
use Rattle.cube.specs.Lists.{cube_capacity}
use Rattle.script.specs.Calls.{run_of, ran_outcome, work_after, run_outcome, run_after}
use Rattle.indexed.specs.Calls.{indexed_outcome, indexed_work}
use Rattle.indexed.proofs.Finishing.{tests_of_run}

module _ (n : ℕ) (list script : List ℕ) where
  pub answers_as_run : (room index_room : ℕ) → place_width * cube_capacity room ≤ index_room → indexed_outcome n list script room index_room ≡ run_outcome n list script room
  unfolding indexed_outcome run_outcome
  answers_as_run room index_room h = ap (λ (o : Outcome). and_then o (ran_outcome (run_of n list script room))) (tests_of_run n list script room index_room h)

  pub leaves_as_run : (work : List ℕ) (index_room : ℕ) → place_width * cube_capacity (length work) ≤ index_room → indexed_work n list script work index_room ≡ run_after n list script work
  unfolding indexed_work run_after
  leaves_as_run work index_room h =
      ap (λ (o : Outcome). work_after o work (run_of n list script (length work))) (tests_of_run n list script (length work) index_room h)

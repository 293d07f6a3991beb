-- A run that ends: its list has the value of the given one at every assignment, and is good. It is a run of steps that keep good cubes good and the sum of
-- every linear weight, as Runs has it.
-- Assumes nothing.
use mathlib.Core.Path.{◌≡◌}
use mathlib.Core.Bool.{Bool}
use mathlib.Core.List.{List}
use Prim.Native.Nat.{ℕ}
use Rattle.bits.specs.Sums.{sum, All}
use Rattle.cube.specs.declared.Cube.{Cube}
use Rattle.cube.specs.Cubes.{Good, holds}
use Rattle.cube.specs.Lists.{list_value}
use Rattle.steps.specs.Steps.{Step, Allowed, step}
use Rattle.steps.proofs.Linear.{Linear, holds_linear}
use Rattle.steps.proofs.Kept.{taken_back, taken_back_good, taken_back_linear, step_kept, value_of_sum}
use Rattle.script.specs.Run.{ended, unstep, run}
use Rattle.script.proofs.Runs.{FinishedBy, finished_by, KeptBy, Keeping, run_by_kept}
use Rattle.script.proofs.Pending.{unstep_map}

-- a run is its steps, and then the undoing
pub run_finished : (n cap : ℕ) (xs : List Step) (l m : List Cube) (peak : ℕ) → run n cap xs l ≡ ended m peak → FinishedBy (step n cap) unstep xs l m peak
unfolding run
run_finished n cap xs l m peak e = finished_by (step n cap) unstep xs l m peak e

-- good lists stay good, and every linear weight keeps its sum, up to the undoing
pub steps_keeping : (n cap : ℕ) → Keeping (step n cap) unstep taken_back (Good n) (Linear n) (Allowed n)
steps_keeping n cap = record {
  undone = unstep_map;
  good = taken_back_good n;
  fair = taken_back_linear n;
  kept = λ x l m h a e. let k = step_kept n cap l m a x h e in record { good = k.good; sums = k.sums };
}

-- ---- a whole run

module _ (n cap : ℕ) (xs : List Step) (fits : All (Allowed n) xs) (l : List Cube) (good : All (Good n) l) (m : List Cube) (peak : ℕ)
    (ran : run n cap xs l ≡ ended m peak) where
  whole : KeptBy (λ c. c) (Good n) (Linear n) l m
  unfolding run
  whole = run_by_kept (step n cap) unstep taken_back (Good n) (Linear n) (Allowed n) (steps_keeping n cap) xs l m peak fits good ran

  -- the list after the undoing is good
  pub run_good : All (Good n) m
  run_good = whole.good

  -- and the sum of every linear weight over it is that over the given list
  pub run_sum : (w : Cube → Bool) → Linear n w → sum w m ≡ sum w l
  run_sum w lin = whole.sums w lin

  -- so it has the same value at every assignment
  pub run_value : (a : ℕ) → list_value n m a ≡ list_value n l a
  run_value a = value_of_sum n l m a (run_sum (λ c. holds n c a) (holds_linear n a))

-- A run of a script on a list of shared products, and the undoing of its L steps: the run of any kind of step on any kind of record, for these. Document 02, Nine;
-- document 01, "The steps of a script" and "Settling".
-- Assumes nothing.
use Rattle.std.specs.Prelude.{cond, List, map, ℕ, leb, length}
use Rattle.steps.specs.declared.StepRefusal.{StepRefusal}
use Rattle.steps.specs.Steps.{drop, join, split, turn, L, exchanged}
use Rattle.script.specs.Run.{Ran, run_by, RefusedBy}
use Rattle.script.specs.Counts.{lists_by}
use Rattle.script.specs.Pending.{pend_step}
use Rattle.shared.specs.declared.Shared.{Shared}
use Rattle.shared_steps.specs.SharedSteps.{SharedStep, plain, merge, on_cube, shared_step}

-- a step undone, where it is an L step
abbrev pub shared_unstep : SharedStep → List Shared → List Shared
shared_unstep (plain (drop i j)) l = l
shared_unstep (plain (join i j)) l = l
shared_unstep (plain (split v i)) l = l
shared_unstep (plain (turn v i j)) l = l
shared_unstep (plain (L v b)) l = map (on_cube (exchanged v b)) l
shared_unstep (merge i j) l = l

unfoldable pub shared_run : ℕ → ℕ → List SharedStep → List Shared → Ran Shared
shared_run n cap xs l = run_by (shared_step n cap) shared_unstep xs l

-- the steps xs from the list l are refused at step k
abbrev pub SharedRefused : (n cap : ℕ) (xs : List SharedStep) (l : List Shared) (r : StepRefusal) (k : ℕ) → Type 0
SharedRefused n cap = RefusedBy (shared_step n cap) (plain (drop 0 0))

-- the lists between the steps
abbrev pub shared_lists : ℕ → ℕ → List SharedStep → List Shared → List (List Shared)
shared_lists n cap = lists_by (shared_step n cap)

-- what is pending after one more step: nothing more after a merge
abbrev pub pend_shared : List ℕ → SharedStep → List ℕ
pend_shared os (plain x) = pend_step os x
pend_shared os (merge i j) = os

-- "settling compares only the script's result and the given list, by products"; ties go to the script's result
abbrev pub shared_burned : List Shared → List Shared → List Shared
shared_burned result given = cond (leb (length result) (length given)) result given

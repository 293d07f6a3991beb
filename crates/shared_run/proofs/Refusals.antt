-- A run on shared products is refused exactly where the steps before one are done and that one is refused, by the law of any kind of step.
-- Assumes nothing.
use mathlib.Core.Path.{◌≡◌}
use mathlib.Core.List.{List}
use Prim.Native.Nat.{ℕ}
use Rattle.steps.specs.declared.StepRefusal.{StepRefusal}
use Rattle.steps.specs.Steps.{drop}
use Rattle.script.specs.Run.{stopped}
use Rattle.script.proofs.Refusals.{stopped_by, by_stopped}
use Rattle.shared.specs.declared.Shared.{Shared}
use Rattle.shared_steps.specs.SharedSteps.{SharedStep, plain, shared_step}
use Rattle.shared_run.specs.SharedRun.{shared_unstep, shared_run, SharedRefused}

module _ (n cap : ℕ) (xs : List SharedStep) (l : List Shared) (r : StepRefusal) (k : ℕ) where
  pub stopped_steps : shared_run n cap xs l ≡ stopped r k → SharedRefused n cap xs l r k
  unfolding shared_run
  stopped_steps e = stopped_by (shared_step n cap) (plain (drop 0 0)) shared_unstep xs l r k e

  pub refused_stops : SharedRefused n cap xs l r k → shared_run n cap xs l ≡ stopped r k
  unfolding shared_run
  refused_stops t = by_stopped (shared_step n cap) (plain (drop 0 0)) shared_unstep xs l r k t

-- A run on shared products that ends: every output has its value at every assignment, and the list is fine. It is a run of steps that keep fine products fine and the
-- sum of every fair weight, as the laws of any kind of step have it.
-- Assumes nothing.
use mathlib.Core.Path.{◌≡◌, sym, ap, ◌∙◌}
use mathlib.Core.Bool.{◌&&◌}
use mathlib.Core.List.{List}
use Prim.Native.Nat.{ℕ}
use Rattle.bits.specs.Sums.{one_if, All}
use Rattle.cube.specs.Cubes.{holds}
use Rattle.script.specs.Run.{ended}
use Rattle.script.proofs.Runs.{KeptBy, Keeping, run_by_kept}
use Rattle.shared.specs.declared.Shared.{Shared}
use Rattle.shared.specs.SharedRecord.{Fine}
use Rattle.shared.specs.Outputs.{carries, output_value}
use Rattle.shared.proofs.Outputs.{output_sum}
use Rattle.shared_steps.specs.SharedSteps.{SharedStep, SharedAllowed, shared_step}
use Rattle.shared_steps.proofs.Fair.{Fair, carries_fair}
use Rattle.shared_steps.proofs.Kept.{shared_back, shared_back_fine, shared_back_fair, shared_step_kept}
use Rattle.shared_run.specs.SharedRun.{shared_unstep, shared_run}
use Rattle.shared_run.proofs.Pending.{unstep_back}

-- fine lists stay fine, and every fair weight keeps its sum, up to the undoing
pub shared_keeping : (n cap : ℕ) → Keeping (shared_step n cap) shared_unstep shared_back (Fine n) (Fair n) (SharedAllowed n)
shared_keeping n cap = record {
  undone = unstep_back;
  good = shared_back_fine n;
  fair = shared_back_fair n;
  kept = λ x l m h a e. let k = shared_step_kept n cap l m a x h e in record { good = k.good; sums = k.sums };
}

-- ---- a whole run

module _ (n cap : ℕ) (xs : List SharedStep) (fits : All (SharedAllowed n) xs) (l : List Shared) (fine : All (Fine n) l) (m : List Shared) (peak : ℕ)
    (ran : shared_run n cap xs l ≡ ended m peak) where
  whole : KeptBy (λ r. r) (Fine n) (Fair n) l m
  unfolding shared_run
  whole = run_by_kept (shared_step n cap) shared_unstep shared_back (Fine n) (Fair n) (SharedAllowed n) (shared_keeping n cap) xs l m peak fits fine ran

  -- the list after the undoing is fine
  pub shared_run_fine : All (Fine n) m
  shared_run_fine = whole.good

  -- and each output has the value that it has of the given list
  pub shared_run_value : (k a : ℕ) → output_value n k m a ≡ output_value n k l a
  shared_run_value k a =
      output_sum n k m a ∙ ap one_if (whole.sums (λ r. carries k r && holds n r.cube a) (carries_fair n k a)) ∙ sym (output_sum n k l a)

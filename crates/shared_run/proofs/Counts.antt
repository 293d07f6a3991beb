-- The count after a run on shared products, and its peak, by the laws of any kind of step. Document 02, Nine: the merge takes one product.
-- Assumes nothing.
use mathlib.Core.Path.{◌≡◌, refl}
use mathlib.Core.List.{List, [], ◌∷◌}
use Prim.Native.Nat.{ℕ, suc, ◌+◌, ◌*◌, ◌≤◌, max}
use native.Mathlib.Omega.{arith}
use lib.ListN.{length, get_or}
use Rattle.steps.specs.Steps.{is_split, is_join, is_drop}
use Rattle.script.specs.Run.{ended, undo_by}
use Rattle.script.specs.Counts.{how_many, greatest}
use Rattle.script.proofs.Counts.{lists_bound_by, run_lists_by, run_result_by, run_peak_by, run_count_by, run_last_by}
use Rattle.shared.specs.declared.Shared.{Shared}
use Rattle.shared_steps.specs.SharedSteps.{SharedStep, is_merge, of_plain, shared_step}
use Rattle.shared_steps.proofs.Kept.{shared_step_count, shared_step_most}
use Rattle.shared_run.specs.SharedRun.{shared_unstep, shared_run, shared_lists}
use Rattle.shared_run.proofs.Pending.{undo_shared_length}

-- what is taken away by a join, a merge and a drop
abbrev takes : SharedStep → ℕ
takes x = of_plain is_join x + is_merge x + 2 * of_plain is_drop x

taken_are : (xs : List SharedStep) → how_many takes xs ≡ how_many (of_plain is_join) xs + how_many is_merge xs + 2 * how_many (of_plain is_drop) xs
unfolding how_many
taken_are [] = refl
taken_are (x ∷ xs) = omega (arith, taken_are xs)

pub shared_lists_bound : (n cap : ℕ) (xs : List SharedStep) (l : List Shared)
    → (greatest (shared_lists n cap xs l) ≤ length l + how_many (of_plain is_split) xs) × (greatest (shared_lists n cap xs l) ≤ max cap (length l))
shared_lists_bound n cap =
    lists_bound_by (shared_step n cap) (of_plain is_split) cap (λ x l m e. (omega (arith, shared_step_count n cap x l m e), shared_step_most n cap x l m e))

module _ (n cap : ℕ) (xs : List SharedStep) (l m : List Shared) (peak : ℕ) (ran : shared_run n cap xs l ≡ ended m peak) where
  -- the first count plus splits, less joins, less merges, less twice the drops
  pub shared_count : length m + how_many (of_plain is_join) xs + how_many is_merge xs + 2 * how_many (of_plain is_drop) xs ≡ length l + how_many (of_plain is_split) xs
  unfolding shared_run
  shared_count =
      omega (
        arith,
        run_count_by (shared_step n cap) shared_unstep xs l m peak ran (undo_shared_length xs) takes (of_plain is_split)
            (λ x l m e. omega (arith, shared_step_count n cap x l m e)),
        taken_are xs,
      )

  -- there is a list after each step, and the last of them, undone, is the result
  pub shared_run_lists : length (shared_lists n cap xs l) ≡ suc (length xs)
  unfolding shared_run
  shared_run_lists = run_lists_by (shared_step n cap) shared_unstep xs l m peak ran

  pub shared_result : m ≡ undo_by shared_unstep xs (get_or (shared_lists n cap xs l) (length xs) [])
  unfolding shared_run
  shared_result = run_result_by (shared_step n cap) shared_unstep xs l m peak ran

  -- "The peak is the greatest count met, the first included"
  pub shared_peak : peak ≡ greatest (shared_lists n cap xs l)
  unfolding shared_run
  shared_peak = run_peak_by (shared_step n cap) shared_unstep xs l m peak ran

  pub shared_peak_capacity : peak ≤ max cap (length l)
  shared_peak_capacity = omega (arith, shared_peak, (shared_lists_bound n cap xs l).1)

  pub shared_last : length m ≤ peak
  unfolding shared_run
  shared_last = run_last_by (shared_step n cap) shared_unstep xs l m peak ran (undo_shared_length xs)

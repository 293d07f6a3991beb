-- The record of a step on shared products, by its operation: a merge, or a step on cubes with what is known of it.
-- Assumes nothing.
use mathlib.Core.Path.{◌≡◌, ap, ◌∙◌, subst}
use Prim.Native.Nat.{ℕ, ◌<◌}
use native.Mathlib.Omega.{arith}
use borrow.Author.Tests.{eq-eqb, ne_eqb}
use Rattle.steps.specs.declared.StepRecord.{StepRecord}
use Rattle.steps.specs.Steps.{Step, meaning}
use Rattle.steps.specs.Calls.{Known}
use Rattle.shared_steps.specs.SharedSteps.{SharedStep, plain, merge, is_merge, SharedAllowed, merge_operation, shared_meaning}
use Rattle.shared_steps.specs.Calls.{SharedKnown}

module _ (x : StepRecord) where
  pub means_merge : x.op ≡ merge_operation → shared_meaning x ≡ merge x.i x.j
  unfolding shared_meaning
  means_merge e = simp (eq-eqb x.op merge_operation e)

  pub means_plain : (x.op ≡ merge_operation → ⊥) → shared_meaning x ≡ plain (meaning x)
  unfolding shared_meaning
  means_plain ne = simp (ne_eqb x.op merge_operation ne)

  -- what is known of a step that is no merge is what a step on cubes asks
  pub plain_known : (n : ℕ) → SharedKnown n x → (x.op ≡ merge_operation → ⊥) → Known n x
  plain_known n k ne = record { least = k.least; most = omega (arith, k.most); fits = subst (SharedAllowed n) (means_plain ne) k.fits }

  pub plain_low : (n : ℕ) → SharedKnown n x → (x.op ≡ merge_operation → ⊥) → (x.op ≡ 5 → ⊥) → x.op < 5
  plain_low n k ne nl = omega (arith, k.most)

  -- a plain step is no merge, and the step on cubes
  pub no_merge : (y : Step) → plain y ≡ shared_meaning x → x.op ≡ merge_operation → ⊥
  no_merge y e q = let t : is_merge (plain y) ≡ is_merge (merge x.i x.j) = ap is_merge (e ∙ means_merge q) in omega arith

  pub plain_meaning : (y : Step) → plain y ≡ shared_meaning x → y ≡ meaning x
  plain_meaning y e = ap plain_of (e ∙ means_plain (no_merge y e))
    where
      plain_of : SharedStep → Step
      plain_of (plain z) = z
      plain_of (merge i j) = y

-- What is pending after a step of a run.
-- Assumes nothing.
use mathlib.Core.Path.{◌≡◌, refl, sym, ap, ◌∙◌}
use mathlib.Core.List.{List}
use Prim.Native.Nat.{ℕ, zero, suc, ◌-◌, ◌≤◌, ◌<◌}
use native.Mathlib.Omega.{arith}
use lib.ListN.{length, get_or, set}
use lib.Seq.{set_out}
use Rattle.orders.specs.Orders.{no_order, follow, letter_order}
use Rattle.steps.specs.declared.StepRecord.{StepRecord}
use Rattle.steps.specs.Steps.{meaning, meaning_by}
use Rattle.steps.proofs.Making.{means}
use Rattle.script.specs.Pending.{pend_step}

-- ---- what is pending after a step

module _ (os : List ℕ) (x : StepRecord) where
  pub pend_other : x.op < 5 → os ≡ pend_step os (meaning x)
  unfolding meaning
  pend_other h = go x.op h
    where
      go : (op : ℕ) → op < 5 → os ≡ pend_step os (meaning_by op x)
      go zero h = refl
      go (suc zero) h = refl
      go (suc (suc zero)) h = refl
      go (suc (suc (suc zero))) h = refl
      go (suc (suc (suc (suc zero)))) h = refl
      go (suc (suc (suc (suc (suc op))))) h = absurd (omega arith)

  pub pend_l : 5 ≤ x.op → set os x.v (follow (get_or os x.v no_order) (letter_order x.literal)) ≡ pend_step os (meaning x)
  pend_l h = let e : x.op ≡ suc (suc (suc (suc (suc (x.op - 5))))) = omega arith in ap (pend_step os) (sym (means x (suc (suc (suc (suc (suc (x.op - 5)))))) e))

  pub pend_out : 5 ≤ x.op → length os ≤ x.v → os ≡ pend_step os (meaning x)
  pend_out h l = sym (set_out os x.v (follow (get_or os x.v no_order) (letter_order x.literal)) l) ∙ pend_l h

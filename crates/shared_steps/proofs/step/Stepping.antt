-- What is decided of shared products, as it is asked of a kind of record.
-- Assumes nothing.
use mathlib.Core.Path.{◌≡◌, sym, ap, ◌∙◌, subst}
use Prim.Native.Nat.{ℕ}
use Rattle.steps.specs.declared.StepRecord.{StepRecord}
use Rattle.steps.specs.Moves.{Move, applied}
use Rattle.steps.specs.Changes.{Placed}
use Rattle.steps.specs.Kinds.{DecidedOn}
use Rattle.shared.specs.declared.Shared.{Shared}
use Rattle.shared.specs.SharedRecord.{no_shared, shares}
use Rattle.shared_steps.specs.SharedSteps.{shared_meaning, shared_decision, shared_step}
use Rattle.shared_steps.specs.Calls.{SharedKnown}
use Rattle.shared_steps.proofs.Sound.{shared_decision_placed, shared_decision_made}

pub product_decided : (n count cap : ℕ) (x : StepRecord) → SharedKnown n x → (x.op ≡ 5 → ⊥) → (a b : Shared) (m : Move Shared)
    → m ≡ shared_decision n count cap (shared_meaning x) a b → DecidedOn shares (λ l. shared_step n cap (shared_meaning x) l) count cap x.i x.j a b m
product_decided n count cap x known ne a b m made = record {
  placed = subst (Placed count cap x.i x.j) (sym made) (shared_decision_placed n count cap x a b);
  is = λ l many ea eb.
      shared_decision_made n cap x known ne l
      ∙ ap (applied no_shared x.i x.j l) ((λ t. shared_decision n (many t) cap (shared_meaning x) (sym ea t) (sym eb t)) ∙ sym made);
}

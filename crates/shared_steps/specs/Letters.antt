-- Inside: an L step moves the code at its variable by one of the six orders, in the cube of every shared product.
-- Assumes nothing.
use Rattle.std.specs.Prelude.{◌≡◌, ℕ, map, ◌<◌, ◌≤◌, cond, eqb}
use Rattle.std.proofs.Common.{ap, ◌∙◌, subst}
use Rattle.cube.specs.Lists.{most_variables}
use Rattle.cube.proofs.Codes.{good_more}
use Rattle.steps.specs.declared.StepRecord.{StepRecord}
use Rattle.steps.specs.Moves.{next}
use Rattle.steps.specs.Steps.{L, reordered, meaning}
use Rattle.steps.specs.Kinds.{IsLetter}
use Rattle.steps.specs.Letters.{exchanged_is, means_letter}
use Rattle.shared.specs.declared.Shared.{Shared}
use Rattle.shared.specs.SharedRecord.{Fine}
use Rattle.shared_steps.specs.SharedSteps.{SharedStep, plain, merge, merge_operation, SharedAllowed, on_cube, shared_meaning, shared_step}
use Rattle.shared_steps.specs.Calls.{SharedKnown}

pub fine_more : (n : ℕ) → n ≤ most_variables → (s : Shared) → Fine n s → Fine most_variables s
fine_more n few s fine = record { good = good_more n most_variables s.cube few fine.good; some = fine.some }

pub means_shared_letter : (x : StepRecord) → x.op ≡ 5 → shared_meaning x ≡ plain (L x.v x.literal)
unfolding shared_meaning
means_shared_letter x e = ap (λ (k : ℕ). cond (eqb k merge_operation) (merge x.i x.j) (plain (meaning x))) e ∙ ap plain (means_letter x e)

pub shared_letter : (n cap : ℕ) (x : StepRecord) → SharedKnown n x → x.op ≡ 5 → IsLetter (λ l. shared_step n cap (shared_meaning x) l) (λ v o s. on_cube (reordered v o) s) n x
unfolding shared_step
shared_letter n cap x known e =
    let fits : (x.v < n) × (x.literal < 2) = subst (SharedAllowed n) (means_shared_letter x e) known.fits in
    record {
      below = fits.0;
      is = λ l. ap (λ (y : SharedStep). shared_step n cap y l) (means_shared_letter x e) ∙ ap next (λ t. map (on_cube (λ c. exchanged_is x.v x.literal c fits.1 t)) l);
    }

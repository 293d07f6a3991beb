-- Inside: an L step moves the code at its variable by one of the six orders, in every cube.
-- Assumes nothing.
use Rattle.std.specs.Prelude.{◌≡◌, ℕ, map, ◌<◌}
use Rattle.std.proofs.Common.{sym, ap, ◌∙◌, subst}
use Rattle.cube.specs.declared.Cube.{Cube}
use Rattle.cube.specs.Cubes.{code, put}
use Rattle.cube.proofs.Codes.{code_lt}
use Rattle.orders.specs.Orders.{letter_order}
use Rattle.orders.proofs.Orders.{code_after_letter}
use Rattle.steps.specs.declared.StepRecord.{StepRecord}
use Rattle.steps.specs.Moves.{next}
use Rattle.steps.specs.Steps.{Step, L, Allowed, meaning, meaning_by, exchanged, reordered, step}
use Rattle.steps.specs.Calls.{Known}
use Rattle.steps.specs.Kinds.{IsLetter}

-- "that literal's code and 2 are exchanged" is one of the six orders
pub exchanged_is : (v b : ℕ) (c : Cube) → b < 2 → exchanged v b c ≡ reordered v (letter_order b) c
unfolding exchanged reordered
exchanged_is v b c h = ap (put c v) (sym (code_after_letter b (code c v) h (code_lt c v)))

-- the record of an L step
pub means_letter : (x : StepRecord) → x.op ≡ 5 → meaning x ≡ L x.v x.literal
unfolding meaning
means_letter x e = ap (λ (k : ℕ). meaning_by k x) e

pub cube_letter : (n cap : ℕ) (x : StepRecord) → Known n x → x.op ≡ 5 → IsLetter (step n cap (meaning x)) reordered n x
unfolding step
cube_letter n cap x known e =
    let fits : (x.v < n) × (x.literal < 2) = subst (Allowed n) (means_letter x e) known.fits in
    record {
      below = fits.0;
      is = λ l. ap (λ (y : Step). step n cap y l) (means_letter x e) ∙ ap next (λ t. map (λ c. exchanged_is x.v x.literal c fits.1 t) l);
    }

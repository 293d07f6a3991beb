-- `candidates::best_form` meets its contract.
-- Assumes nothing.
use Prim.Native.Nat.{◌≤◌}
use native.Mathlib.Omega.{arith}
use mathlib.Core.Path.{sym, ◌∙◌}
use lib.Seq.{length-take-le}
use Rattle.settling.proofs.Forming.{power_is, power_small}
use Rattle.settling.proofs.candidates.Polarities.{passed_few, form_absent, form_found}
use Rattle.settling.proofs.candidates.best_form.Goals as goal

pub returns-then-n-gt-VECTOR_VARIABLES : goal.returns-then-n-gt-VECTOR_VARIABLES
returns-then-n-gt-VECTOR_VARIABLES c = form_absent _ _ (omega (arith, c.if-n-gt-VECTOR_VARIABLES.true)) _ _

pub slice_bounds-vector-end : goal.slice_bounds-vector-end
slice_bounds-vector-end c = power_small c.args.n (omega arith)

pub slice_bounds-best_of-end : goal.slice_bounds-best_of-end
slice_bounds-best_of-end c = sym (length-take-le _ _ (power_small c.args.n (omega arith)))

pub best_of-forms-requires : goal.best_of-forms-requires
best_of-forms-requires c =
    let h : c.args.n ≤ 8 = omega arith in record { accepts = passed_few _ _ c.requires h; vector_len = length-take-le _ _ (power_small _ h) ∙ power_is _ h }

pub returns : goal.returns
returns c = form_found _ _ _ c.best_of-forms.ensures.forms_are _ _ c.best_of-forms.ensures.vector_after

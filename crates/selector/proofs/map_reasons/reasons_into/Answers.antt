-- `map_reasons::reasons_into` meets its contract.
-- Assumes nothing.
use mathlib.Core.Path.{◌≡◌, sym, ap, ◌∙◌, subst}
use Rattle.std.proofs.Common.{rules}
use Rattle.std.specs.Prelude.{IsErr, IsErrAnd}
use Rattle.records.specs.Answers.{counted}
use Rattle.selector.specs.declared.MapRefusal.{MapRefusal}
use Rattle.selector.specs.Refusals.{of_map}
use Rattle.selector.proofs.Checks.{reasons_accepts}
use Rattle.selector.proofs.Handing.{known_ok, known_err}
use Rattle.selector.proofs.Left.{starts_sum}
use Rattle.selector.proofs.map_reasons.Finishing.{reasons_refused, reasons_shown}
use Rattle.selector.proofs.map_reasons.reasons_into.Goals as goal

pub returns-in_err-map_err : goal.returns-in_err-map_err
returns-in_err-map_err c =
    let e = known_err c.check_map_reasons.result _ _ c.in_err-map_err.ensures.cases in
    let made : c.in_err-map_err.field-0.0 ≡ of_map e.why = search (rules, e.known) in
    reasons_refused _ _ _ _ _ _ _ (sym c.check_map_reasons.ensures ∙ ap counted e.is) _ (subst (λ (f : MapRefusal). IsErr c.from_residual.result × IsErrAnd c.from_residual.result (λ (g : MapRefusal). g ≡ f)) made c.from_residual.ensures)

pub invariant_of-lists : goal.invariant_of-lists
invariant_of-lists c = record { fits = sym (starts_sum c.args.lengths.now) ∙ (reasons_accepts _ _ _ _ (sym c.check_map_reasons.ensures ∙ ap counted (known_ok c.check_map_reasons.result _ c.in_ok-map_err.ensures.cases))).lists_are.adds }

pub show_lists-requires : goal.show_lists-requires
show_lists-requires c = reasons_accepts _ _ _ _ (sym c.check_map_reasons.ensures ∙ ap counted (known_ok c.check_map_reasons.result _ c.in_ok-map_err.ensures.cases))

pub returns : goal.returns
returns c = reasons_shown _ _ _ _ _ _ _ (sym c.check_map_reasons.ensures ∙ ap counted (known_ok c.check_map_reasons.result _ c.in_ok-map_err.ensures.cases)) _ _ _ c.show_lists.ensures

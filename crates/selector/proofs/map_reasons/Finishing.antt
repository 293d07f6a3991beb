-- The reasons of a map: what each return of the call answers and leaves.
-- Assumes nothing.
use mathlib.Core.Path.{◌≡◌, refl, sym, ap, ◌∙◌}
use mathlib.Core.List.{List}
use Prim.Native.Nat.{ℕ}
use lib.ListN.{length}
use Rattle.records.specs.declared.Refusal.{Refusal}
use Rattle.records.specs.Records.{zeros}
use Rattle.records.specs.Answers.{Outcome, accepted, refused}
use Rattle.selector.specs.declared.MapRefusal.{MapRefusal}
use Rattle.std.specs.Prelude.{Result, IsErr, IsErrAnd}
use Rattle.selector.specs.Refusals.{of_map}
use Rattle.selector.specs.declared.ByList.{ByList}
use Rattle.selector.specs.Maps.{most_lists}
use Rattle.selector.specs.Answers.{MapOutcome, map_accepted, map_refused, list_refused, after_check, after_map, after_each}
use Rattle.selector.specs.Calls.{check_map_reasons, reasons_turns, map_reasons_outcome, true_numbers, shown_bytes, ReasonsInto, ReasonsCalled}
use Rattle.selector.proofs.Handing.{handed_map}
use Rattle.selector.specs.Turns.{ShownTurns}

module _ (n : ℕ) (lists lengths : List ℕ) (a : ℕ) (out each : List ℕ) where
  pub reasons_refused : (q : Refusal) → check_map_reasons lists lengths (length out) ≡ refused q → (r : Result ℕ MapRefusal)
      → IsErr r × IsErrAnd r (λ (f : MapRefusal). f ≡ of_map q) → ReasonsInto n lists lengths a out each r out each
  unfolding map_reasons_outcome
  reasons_refused q e r er =
      let is : map_reasons_outcome n lists lengths a (length out) ≡ map_refused q = ap (λ (o : Outcome). after_check o (reasons_turns n lists lengths a)) e in
      record {
        answer = handed_map r (of_map q) _ er (sym is);
        numbers = ap (λ (o : MapOutcome). after_each o (true_numbers n lists lengths a) each) (sym is);
        out_is = ap (λ (o : MapOutcome). after_map o (shown_bytes n lists lengths a out) out) (sym is);
      }

  pub reasons_shown : (v : List ℕ) → check_map_reasons lists lengths (length out) ≡ accepted v → (r : Result ℕ MapRefusal) (out' each' : List ℕ)
      → ShownTurns n lists lengths a out each r out' each' → ReasonsInto n lists lengths a out each r out' each'
  unfolding map_reasons_outcome
  reasons_shown v e r out' each' t =
      let is : map_reasons_outcome n lists lengths a (length out) ≡ reasons_turns n lists lengths a = ap (λ (o : Outcome). after_check o (reasons_turns n lists lengths a)) e in
      record {
        answer = t.answer ∙ sym is;
        numbers = t.numbers ∙ ap (λ (o : MapOutcome). after_each o (true_numbers n lists lengths a) each) (sym is);
        out_is = t.out_is ∙ ap (λ (o : MapOutcome). after_map o (shown_bytes n lists lengths a out) out) (sym is);
      }

-- twelve numbers that were all 0, by value
pub reasons_by_value : (n : ℕ) (lists lengths : List ℕ) (a : ℕ) (out : List ℕ) (s : ByList) (out' : List ℕ)
    → ReasonsInto n lists lengths a out (zeros most_lists) s.answer out' s.each → ReasonsCalled n lists lengths a out s out'
reasons_by_value n lists lengths a out s out' t = record {
  answer = t.answer;
  numbers = t.numbers ∙ like (map_reasons_outcome n lists lengths a (length out));
  out_is = t.out_is;
}
  where
    like : (o : MapOutcome) → after_each o (true_numbers n lists lengths a) (zeros most_lists) ≡ after_map o (true_numbers n lists lengths a) (zeros most_lists)
    like (map_accepted x) = refl
    like (map_refused r) = refl
    like (list_refused r k) = refl

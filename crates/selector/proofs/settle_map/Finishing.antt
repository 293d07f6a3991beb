-- Settling a map: what each of its returns answers and leaves.
-- Assumes nothing.
use mathlib.Core.Path.{◌≡◌, refl, sym, ap, ◌∙◌}
use mathlib.Core.List.{List}
use Prim.Native.Nat.{ℕ}
use lib.ListN.{length}
use Rattle.records.specs.declared.Refusal.{Refusal}
use Rattle.records.specs.Records.{zeros}
use Rattle.records.specs.Answers.{Outcome, accepted, refused}
use Rattle.std.specs.Prelude.{Err}
use Rattle.selector.specs.Refusals.{of_map}
use Rattle.selector.specs.declared.ByList.{ByList}
use Rattle.selector.specs.Maps.{most_lists}
use Rattle.selector.specs.Answers.{MapOutcome, map_refused, after_check, after_map, map_told}
use Rattle.selector.specs.Calls.{Job, check_job, settle_turns, settle_map_outcome, burned_lengths, burned_bytes, SettleCalled}
use Rattle.selector.specs.Turns.{SettledTurns}
use Rattle.selector.proofs.Turning.{turns_zero}

module _ (j : Job) (work out : List ℕ) where
  pub map_refused_lem : (q : Refusal) → check_job j (length out) ≡ refused q → (s : ByList)
      → (s.answer ≡ Err (of_map q)) × (s.each ≡ zeros most_lists) → SettleCalled j work out s work out
  unfolding settle_map_outcome
  map_refused_lem q e s w =
      let is : settle_map_outcome j (length out) ≡ map_refused q = ap (λ (o : Outcome). after_check o (settle_turns j)) e in
      record {
        answer = ap map_told w.0 ∙ sym is;
        lengths = w.1 ∙ ap (λ (o : MapOutcome). after_map o (burned_lengths j) (zeros most_lists)) (sym is);
        work_is = ap (λ (o : MapOutcome). after_map o (zeros (length work)) work) (sym is);
        out_is = ap (λ (o : MapOutcome). after_map o (burned_bytes j (length out)) out) (sym is);
      }

  pub map_settled : (v : List ℕ) → check_job j (length out) ≡ accepted v → (s : ByList) (work' out' : List ℕ) → SettledTurns j out s out'
      → work' ≡ zeros (length work) → SettleCalled j work out s work' out'
  unfolding settle_map_outcome settle_turns
  map_settled v e s work' out' t ew =
      let is : settle_map_outcome j (length out) ≡ settle_turns j = ap (λ (o : Outcome). after_check o (settle_turns j)) e in
      record {
        answer = t.answer ∙ sym is;
        lengths = t.lengths ∙ ap (λ (o : MapOutcome). after_map o (burned_lengths j) (zeros most_lists)) (sym is);
        work_is = ew ∙ sym (turns_zero _ _ _ (zeros (length work)) work refl) ∙ ap (λ (o : MapOutcome). after_map o (zeros (length work)) work) (sym is);
        out_is = t.out_is ∙ ap (λ (o : MapOutcome). after_map o (burned_bytes j (length out)) out) (sym is);
      }

-- The two calls by their tests: what each return answers and leaves.
-- Assumes nothing.
use mathlib.Core.Path.{◌≡◌, sym, ap, ◌∙◌}
use mathlib.Core.List.{List, [], ◌∷◌, map}
use Prim.Native.Nat.{ℕ, ◌*◌, ◌/◌, ◌%◌, ◌^◌, ◌≤◌, ◌<◌}
use native.Mathlib.Omega.{arith}
use lib.ListN.{length}
use borrow.Author.Tests.{le-leb, lt-leb, lt-ltb, le-ltb}
use Rattle.bits.proofs.Bits.{shl_one}
use Rattle.records.specs.declared.Refusal.{Refusal}
use Rattle.records.specs.Answers.{accepted, refused, refusal}
use Rattle.records.specs.Records.{written}
use Rattle.records.proofs.Answers.{unless_passes, unless_fails, call_refused, call_accepted}
use Rattle.records.proofs.Records.{length_list}
use Rattle.cube.specs.Lists.{record_width, cubes, cubes_of}
use Rattle.shared.specs.SharedRecord.{sharing, shared_width, shares, shares_of}
use Rattle.shared.specs.Outputs.{carrying, output_count}
use Rattle.outputs.specs.Calls.{list_outcome, list_after, shares_outcome, shares_after}

module _ (k : ℕ) (b out : List ℕ) where
  -- ---- list_of

  pub list_5 : {r : Refusal} → r ≡ refusal 5 0 → length out / record_width < length b / shared_width
      → (refused r ≡ list_outcome k b (length out)) × (out ≡ list_after k b out)
  unfolding list_outcome list_after
  list_5 {r} er h = call_refused _ _ out r (unless_fails _ 5 0 _ (lt-leb _ (length out) (omega arith)) ∙ ap refused (sym er))

  pub list_all : length b / shared_width ≤ length out / record_width
      → {count : ℕ} → count ≡ length (carrying k (shares_of b)) → {out' : List ℕ} → out' ≡ written cubes 0 (carrying k (shares_of b)) out
      → (accepted (count ∷ []) ≡ list_outcome k b (length out)) × (out' ≡ list_after k b out)
  unfolding list_outcome list_after
  list_all h ec {out'} eo =
      call_accepted _ _ out _ out' (unless_passes _ 5 0 _ (le-leb _ (length out) (omega arith)) ∙ ap (λ (n : ℕ). accepted (n ∷ [])) (sym ec)) eo

  -- ---- shares_of

  pub shares_21 : {r : Refusal} → r ≡ refusal 21 0 → output_count ≤ k → (refused r ≡ shares_outcome k b (length out)) × (out ≡ shares_after k b out)
  unfolding shares_outcome shares_after
  shares_21 {r} er h = call_refused _ _ out r (unless_fails _ 21 0 _ (le-ltb k output_count h) ∙ ap refused (sym er))

  module _ (low : k < output_count) where
    pub shares_5 : {r : Refusal} → r ≡ refusal 5 0 → length out / shared_width < length b / record_width
        → (refused r ≡ shares_outcome k b (length out)) × (out ≡ shares_after k b out)
    unfolding shares_outcome shares_after
    shares_5 {r} er h =
        call_refused _ _ out r
        (unless_passes _ 21 0 _ (lt-ltb k output_count low) ∙ unless_fails _ 5 0 _ (lt-leb _ (length out) (omega arith)) ∙ ap refused (sym er))

    pub shares_all : length b / record_width ≤ length out / shared_width
        → {out' : List ℕ} → out' ≡ written shares 0 (map (sharing ((1 * 2 ^ k) % 2 ^ output_count)) (cubes_of b)) out
        → (accepted (length b / record_width ∷ []) ≡ shares_outcome k b (length out)) × (out' ≡ shares_after k b out)
    unfolding shares_outcome shares_after
    shares_all h {out'} eo =
        call_accepted _ _ out _ out'
        (unless_passes _ 21 0 _ (lt-ltb k output_count low) ∙ unless_passes _ 5 0 _ (le-leb _ (length out) (omega arith))
        ∙ ap (λ (n : ℕ). accepted (n ∷ [])) (length_list cubes b))
        (eo ∙ ap (λ (o : ℕ). written shares 0 (map (sharing o) (cubes_of b)) out) (shl_one k output_count low))

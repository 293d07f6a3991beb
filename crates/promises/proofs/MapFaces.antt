-- The calls on a map for callers from C and Rust. Every outcome that the contract of a face allows is a `MapFaced`: a call as from Rattle, whose outcome the eight words are,
-- and what is promised of the calls (Selector.antt) is promised of it. Word 0 is 0 exactly when it was accepted; of a refusal, word 3 is the list's number, or all ones.
-- Assumes nothing.
use mathlib.Core.Path.{◌≡◌, refl, sym, ap, ◌∙◌}
use mathlib.Core.Bool.{Bool, true, false, ◌||◌, true≢false}
use mathlib.Core.List.{List, [], ◌∷◌}
use Prim.Native.Nat.{ℕ, ◌≤◌}
use native.Mathlib.Omega.{arith}
use borrow.Author.Tests.{eqb-true}
use lib.Dec.{eqb}
use lib.ListN.{length, get_or}
use Rattle.records.specs.declared.Refusal.{Refusal}
use Rattle.records.specs.Records.{zeros}
use Rattle.records.specs.Answers.{refused}
use Rattle.selector.specs.Maps.{most_lists}
use Rattle.selector.specs.Answers.{MapOutcome, map_accepted, map_refused, list_refused, after_map}
use Rattle.selector.specs.Calls.{map_reasons_outcome, true_numbers, shown_bytes, Job, job, settle_map_outcome, burned_lengths, burned_bytes}
use Rattle.druthmoy.specs.Faces.{eight, all_ones, map_words, after_each, SettleFaced, ReasonsFaced}
use Rattle.druthmoy.proofs.maps.dm_slot.Kinds as dm_slot_kinds
use Rattle.druthmoy.proofs.maps.dm_slot.Reads as dm_slot_reads
use Rattle.druthmoy.proofs.maps.dm_settle_map.Kinds as dm_settle_map_kinds
use Rattle.druthmoy.proofs.maps.dm_settle_map.Reads as dm_settle_map_reads
use Rattle.druthmoy.proofs.maps.dm_map_reasons.Kinds as dm_map_reasons_kinds
use Rattle.druthmoy.proofs.maps.dm_map_reasons.Reads as dm_map_reasons_reads
use Rattle.promises.specs.Calls.{leaves}
use Rattle.promises.specs.Selector.{MapCall, slot, settle_map, map_reasons, map_answers, map_lent, map_makes, list_call, before_lists, MapFaced, Twelve, IsMapFaced}
use Rattle.promises.proofs.DemandOne.{refused_above_0}
use Rattle.promises.proofs.Selector.{leaves_two, leaves_three, of_slot, refused_map, refused_list}

-- ---- every outcome that the contracts allow is a `MapFaced`

-- twelve lent numbers are written like a buffer
like_buffer : (o : MapOutcome) (new each : List ℕ) → length each ≡ most_lists → after_each o new each ≡ after_map o new each
like_buffer (map_accepted x) new each e = refl
like_buffer (map_refused r) new each e = refl
like_buffer (list_refused r k) new each e = ap zeros (sym e)

of_settle_face : (n : ℕ) (lists lengths scripts script_lengths work out each work' out' each' answer : List ℕ) → length each ≡ most_lists
    → SettleFaced (job n lists lengths scripts script_lengths (length work)) work out each work' out' each' answer
    → MapFaced (settle_map n lists lengths scripts script_lengths work out each) answer (work' ∷ out' ∷ each' ∷ [])
unfolding map_answers map_makes map_lent
of_settle_face n lists lengths scripts script_lengths work out each work' out' each' answer twelve f =
    let j : Job = job n lists lengths scripts script_lengths (length work) in
    let o : MapOutcome = settle_map_outcome j (length out) in
    let numbers : each' ≡ after_map o (burned_lengths j) each = f.each_is ∙ like_buffer o (burned_lengths j) each twelve in
    record {
      outcome = o;
      called = record {
        answer = refl;
        left = (λ i. f.work_is i ∷ f.out_is i ∷ numbers i ∷ [])
            ∙ leaves_three o (zeros (length work)) (burned_bytes j (length out)) (burned_lengths j) work out each;
      };
      told = f.answer_is;
    }

of_reasons_face : (n : ℕ) (lists lengths : List ℕ) (a : ℕ) (out each out' each' answer : List ℕ) → length each ≡ most_lists
    → ReasonsFaced n lists lengths a out each out' each' answer → MapFaced (map_reasons n lists lengths a out each) answer (out' ∷ each' ∷ [])
unfolding map_answers map_makes map_lent
of_reasons_face n lists lengths a out each out' each' answer twelve f =
    let o : MapOutcome = map_reasons_outcome n lists lengths a (length out) in
    let numbers : each' ≡ after_map o (true_numbers n lists lengths a) each = f.each_is ∙ like_buffer o (true_numbers n lists lengths a) each twelve in
    record {
      outcome = o;
      called = record {
        answer = refl;
        left = (λ i. f.out_is i ∷ numbers i ∷ []) ∙ leaves_two o (shown_bytes n lists lengths a out) (true_numbers n lists lengths a) out each;
      };
      told = f.answer_is;
    }

pub dm_slot_faced : IsMapFaced 3 dm_slot_kinds.ps dm_slot_kinds.r dm_slot_reads.Learnt
    (λ κs a. slot a.0 a.1.0.now a.1.1.0.now a.1.1.1.0)
    (λ κs a ws. []) (λ κs a ws. ws.1.1.1.1.0)
dm_slot_faced κs a z ws twelve p = record { outcome = _; called = of_slot _ _ _ _ _ refl; told = p }

pub dm_settle_map_faced : IsMapFaced 8 dm_settle_map_kinds.ps dm_settle_map_kinds.r dm_settle_map_reads.Learnt
    (λ κs a.
    settle_map a.0 a.1.0.now a.1.1.0.now a.1.1.1.0.now a.1.1.1.1.0.now a.1.1.1.1.1.0.now a.1.1.1.1.1.1.0.now
    a.1.1.1.1.1.1.1.0.now)
    (λ κs a ws. ws.1.1.1.1.1.0 ∷ ws.1.1.1.1.1.1.0 ∷ ws.1.1.1.1.1.1.1.0 ∷ []) (λ κs a ws. ws.1.1.1.1.1.1.1.1.0)
unfolding Twelve
dm_settle_map_faced κs a z ws twelve p = of_settle_face _ _ _ _ _ _ _ _ _ _ _ _ twelve p

pub dm_map_reasons_faced : IsMapFaced 5 dm_map_reasons_kinds.ps dm_map_reasons_kinds.r dm_map_reasons_reads.Learnt
    (λ κs a. map_reasons a.0 a.1.0.now a.1.1.0.now a.1.1.1.0 a.1.1.1.1.0.now a.1.1.1.1.1.0.now)
    (λ κs a ws. ws.1.1.1.1.0 ∷ ws.1.1.1.1.1.0 ∷ []) (λ κs a ws. ws.1.1.1.1.1.1.0)
unfolding Twelve
dm_map_reasons_faced κs a z ws twelve p = of_reasons_face _ _ _ _ _ _ _ _ _ twelve p

-- ---- word 0, and the list's number

-- the numbers of the map's own refusals
own_above : (number : ℕ) → before_lists number ≡ true → 1 ≤ number
own_above number e = go (eqb number 24) refl (eqb number 26) refl (eqb number 5) refl e
  where
    go : (x : Bool) → eqb number 24 ≡ x → (y : Bool) → eqb number 26 ≡ y → (z : Bool) → eqb number 5 ≡ z → (x || (y || z)) ≡ true → 1 ≤ number
    go true ex y ey z ez h = omega (arith, eqb-true number 24 ex)
    go false ex true ey z ez h = omega (arith, eqb-true number 26 ey)
    go false ex false ey true ez h = omega (arith, eqb-true number 5 ez)
    go false ex false ey false ez h = absurd (true≢false (sym h))

module _ (c : MapCall) (answer : List ℕ) (buffers : List (List ℕ)) (F : MapFaced c answer buffers) where
  -- Refused as a map: word 0 is the number, which is not 0, word 1 the place, word 2 the third answer, word 3 all ones, and the others are 0.
  pub map_face_refused : (r : Refusal) → F.outcome ≡ map_refused r → (answer ≡ eight r.number r.place (r.differing ∷ all_ones ∷ [])) × (1 ≤ r.number)
  unfolding map_words
  map_face_refused r e = (F.told ∙ ap map_words e, own_above r.number (refused_map c F.outcome buffers F.called r e).number)

  -- Refused at a list: the same, and word 3 is the list's number.
  pub list_face_refused : (r : Refusal) (k : ℕ) → F.outcome ≡ list_refused r k → (answer ≡ eight r.number r.place (r.differing ∷ k ∷ [])) × (1 ≤ r.number)
  unfolding map_words
  list_face_refused r k e = (
    F.told ∙ ap map_words e,
    refused_above_0 (list_call c k) (refused r) (leaves (list_call c k)) (refused_list c F.outcome buffers F.called r k e).here r refl,
  )

  -- Accepted: words 0 and 1 are 0, word 2 is the number that was asked for, and the others are 0; ..
  pub map_face_accepted : (x : ℕ) → F.outcome ≡ map_accepted x → answer ≡ eight 0 0 (x ∷ [])
  unfolding map_words
  map_face_accepted x e = F.told ∙ ap map_words e

  -- .. and where word 0 is 0, the call was accepted.
  pub map_zero_accepted : get_or answer 0 0 ≡ 0 → (x : ℕ) × (F.outcome ≡ map_accepted x)
  map_zero_accepted z = go F.outcome refl
    where
      go : (o : MapOutcome) → F.outcome ≡ o → (x : ℕ) × (F.outcome ≡ map_accepted x)
      go (map_accepted x) e = (x, e)
      go (map_refused r) e = let t = map_face_refused r e in absurd (omega (arith, ap (λ (w : List ℕ). get_or w 0 0) t.0, t.1))
      go (list_refused r k) e = let t = list_face_refused r k e in absurd (omega (arith, ap (λ (w : List ℕ). get_or w 0 0) t.0, t.1))

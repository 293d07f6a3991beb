-- The two converters by their tests: what each return answers and leaves, and what an accepted call is. Over the kind of record that is read, D, and the kind that
-- is written, C.
-- Assumes nothing.
use mathlib.Core.Path.{◌≡◌, refl, sym, ap, ◌∙◌, subst}
use mathlib.Core.List.{List, [], ◌∷◌}
use Prim.Native.Nat.{ℕ, ◌*◌, ◌≤◌, ◌<◌}
use native.Mathlib.Omega.{arith}
use lib.Dec.{leb}
use lib.ListN.{length}
use borrow.Author.Tests.{le-leb, lt-leb, leb-true}
use Rattle.records.specs.declared.Refusal.{Refusal}
use Rattle.records.specs.Answers.{Outcome, accepted, refused, refusal, unless, and_then, after_call}
use Rattle.records.specs.Records.{Codec, list_of, written}
use Rattle.records.proofs.Answers.{accepted_values, and_then_lem, and_not, unless_passes, unless_fails, unless_accepted, both_accepted, call_refused, call_accepted}
use Rattle.records.proofs.Records.{length_list}
use Rattle.cube.specs.declared.Cube.{Cube}
use Rattle.cube.specs.Lists.{most_variables, cubes}
use Rattle.cube.specs.Calls.{check_list_of}
use Rattle.cube.proofs.Lists.{AcceptedList, check_records, check_accepts, accepts_check, count_is}
use Rattle.converters.specs.NarrowRecord.{narrow_width, narrow_cubes, narrow_variables}
use Rattle.converters.specs.Calls.{wide_outcome, narrow_outcome}

-- ---- the list, and then room for as many records

-- an accepted call: the list passes, the output has room for as many records, and the answer is the count
pub record AcceptedConversion (D C : Codec Cube) (limit n : ℕ) (b : List ℕ) (room : ℕ) (v : List ℕ) : Type 0 where
  pub list : AcceptedList D limit n b
  pub fits : C.width * length (list_of D b) ≤ room
  pub count : v ≡ length (list_of D b) ∷ []

module _ (D C : Codec Cube) (limit n : ℕ) (b : List ℕ) where
  abbrev pub converted : ℕ → Outcome
  converted room =
      and_then (check_list_of D limit n b)
      (unless (leb (C.width * length (list_of D b)) room) 5 0
      (accepted (length (list_of D b) ∷ [])))

  pub conversion_accepts : (room : ℕ) (v : List ℕ) → converted room ≡ accepted v → AcceptedConversion D C limit n b room v
  conversion_accepts room v e =
      let p = both_accepted (check_list_of D limit n b) _ v e in
      let q = unless_accepted (leb (C.width * length (list_of D b)) room) 5 0 _ v p.second in
      record { list = check_accepts D limit n b p.values p.first; fits = leb-true _ _ q.0; count = sym (accepted_values q.1) }

  pub accepts_conversion : (room : ℕ) → AcceptedList D limit n b → C.width * length (list_of D b) ≤ room → converted room ≡ accepted (length (list_of D b) ∷ [])
  accepts_conversion room p h = and_then_lem _ _ _ (accepts_check D limit n b p) ∙ unless_passes _ 5 0 _ (le-leb _ _ h)

  -- a call that comes down to these tests: each answer, and the buffer after it
  module _ (out : List ℕ) (o : Outcome) (chain : converted (length out) ≡ o) where
    abbrev new : List ℕ
    new = written C 0 (list_of D b) out

    pub list_refused : (r : Refusal) → check_list_of D limit n b ≡ refused r → (refused r ≡ o) × (out ≡ after_call o new out)
    list_refused r e = call_refused o new out r (sym chain ∙ and_not _ _ r e)

    module _ (count : ℕ) (e : check_list_of D limit n b ≡ accepted (count ∷ [])) where
      all : length (list_of D b) ≡ count
      all = length_list D b ∙ sym (count_is D limit n b count e)

      pub out_short : (r : Refusal) → r ≡ refusal 5 0 → length out < C.width * count → (refused r ≡ o) × (out ≡ after_call o new out)
      out_short r er h =
          let short : length out < C.width * length (list_of D b) = subst (λ (k : ℕ). length out < C.width * k) (sym all) h in
          call_refused o new out r (sym chain ∙ and_then_lem _ _ _ e ∙ unless_fails _ 5 0 _ (lt-leb _ _ short) ∙ ap refused (sym er))

      pub all_written : C.width * count ≤ length out → (out' : List ℕ) → out' ≡ new → (accepted (count ∷ []) ≡ o) × (out' ≡ after_call o new out)
      all_written h out' eo =
          let fits : C.width * length (list_of D b) ≤ length out = subst (λ (k : ℕ). C.width * k ≤ length out) (sym all) h in
          call_accepted o new out _ out' (sym chain ∙ accepts_conversion (length out) (check_accepts D limit n b _ e) fits ∙ ap (λ (k : ℕ). accepted (k ∷ [])) all) eo

-- ---- wide from narrow

module _ (n : ℕ) (b : List ℕ) (room : ℕ) where
  pub wide_chain : converted narrow_cubes cubes narrow_variables n b room ≡ wide_outcome n b room
  unfolding wide_outcome
  wide_chain = refl

  pub wide_accepts : (v : List ℕ) → wide_outcome n b room ≡ accepted v → AcceptedConversion narrow_cubes cubes narrow_variables n b room v
  wide_accepts v e = conversion_accepts narrow_cubes cubes narrow_variables n b room v (wide_chain ∙ e)

  -- and such a call is accepted
  pub accepts_wide : (v : List ℕ) → AcceptedConversion narrow_cubes cubes narrow_variables n b room v → wide_outcome n b room ≡ accepted v
  accepts_wide v p = sym wide_chain ∙ accepts_conversion narrow_cubes cubes narrow_variables n b room p.list p.fits ∙ ap accepted (sym p.count)

-- ---- narrow from wide

module _ (n : ℕ) (b : List ℕ) where
  module _ (room : ℕ) where
    pub narrow_chain : n ≤ narrow_variables → converted cubes narrow_cubes narrow_variables n b room ≡ narrow_outcome n b room
    unfolding narrow_outcome
    narrow_chain h =
        ap (λ (o : Outcome). and_then o (unless (leb (narrow_width * length (list_of cubes b)) room) 5 0 (accepted (length (list_of cubes b) ∷ []))))
        (sym (check_records cubes narrow_variables n b h))
        ∙ sym (unless_passes _ 1 0 _ (le-leb n most_variables (omega arith)) ∙ unless_passes _ 20 0 _ (le-leb n narrow_variables h))

    pub narrow_accepts : (v : List ℕ) → narrow_outcome n b room ≡ accepted v → AcceptedConversion cubes narrow_cubes narrow_variables n b room v
    unfolding narrow_outcome
    narrow_accepts v e =
        let p = unless_accepted (leb n most_variables) 1 0 _ v e in
        let q = unless_accepted (leb n narrow_variables) 20 0 _ v p.1 in
        conversion_accepts cubes narrow_cubes narrow_variables n b room v (narrow_chain (leb-true n narrow_variables q.0) ∙ e)

    -- and such a call is accepted
    pub accepts_narrow : (v : List ℕ) → AcceptedConversion cubes narrow_cubes narrow_variables n b room v → narrow_outcome n b room ≡ accepted v
    accepts_narrow v p =
        sym (narrow_chain p.list.few) ∙ accepts_conversion cubes narrow_cubes narrow_variables n b room p.list p.fits ∙ ap accepted (sym p.count)

  -- refused before the list is looked at
  module _ (out new : List ℕ) (r : Refusal) where
    pub narrow_1 : r ≡ refusal 1 0 → most_variables < n
        → (refused r ≡ narrow_outcome n b (length out)) × (out ≡ after_call (narrow_outcome n b (length out)) new out)
    unfolding narrow_outcome
    narrow_1 er h = call_refused _ new out r (unless_fails _ 1 0 _ (lt-leb n most_variables h) ∙ ap refused (sym er))

    pub narrow_20 : r ≡ refusal 20 0 → n ≤ most_variables → narrow_variables < n
        → (refused r ≡ narrow_outcome n b (length out)) × (out ≡ after_call (narrow_outcome n b (length out)) new out)
    unfolding narrow_outcome
    narrow_20 er l h =
        call_refused _ new out r (unless_passes _ 1 0 _ (le-leb n most_variables l) ∙ unless_fails _ 20 0 _ (lt-leb n narrow_variables h) ∙ ap refused (sym er))

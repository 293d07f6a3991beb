-- What the two converters do to a list: the same cubes at the same places, no more bytes, and each undoes the other.
-- Assumes nothing.
use mathlib.Core.Path.{◌≡◌, refl, sym, ap, ◌∙◌, subst}
use mathlib.Core.Bool.{true}
use mathlib.Core.List.{List, [], ◌∷◌, ◌++◌}
use Prim.Native.Nat.{ℕ, ◌*◌, ◌/◌, ◌%◌, ◌≤◌, ◌<◌}
use native.Mathlib.Nat.{mul-le-mul_left, le_trans, mul-mod_right, mod-add-div}
use native.Mathlib.Omega.{arith}
use lib.Dec.{lit<}
use lib.ListN.{length, get_or, take, drop}
use lib.Seq.{take_at}
use Rattle.bits.specs.Sums.{All}
use Rattle.records.specs.Answers.{Outcome, accepted}
use Rattle.records.specs.Records.{Codec, flat, records, list_of, written}
use Rattle.records.specs.Fields.{total}
use Rattle.records.proofs.Answers.{after_accepted}
use Rattle.records.proofs.Images.{length_flat}
use Rattle.records.proofs.Fields.{positive, fields_front}
use Rattle.records.proofs.Records.{Lawful, room_place, get_or_records, length_list, list_at, list_flat, length_written, written_front, written_rest, written_records}
use Rattle.cube.specs.declared.Cube.{Cube}
use Rattle.cube.specs.Cubes.{Good, one}
use Rattle.cube.specs.CubeRecord.{cube_fields, cube_of, cube_record, mask_width}
use Rattle.cube.specs.Lists.{most_records, record_width, cubes, cubes_of}
use Rattle.cube.proofs.CubeRecord.{masks, record_lawful, record_bytes}
use Rattle.converters.specs.NarrowRecord.{narrow_width, narrow_mask, narrow_cubes, narrow_cubes_of, narrow_variables}
use Rattle.converters.specs.Calls.{wide_outcome, wide_after, narrow_outcome, narrow_after}
use Rattle.converters.specs.Undone.{Undone}
use Rattle.converters.proofs.Calls.{AcceptedConversion, wide_accepts, accepts_wide, narrow_accepts, accepts_narrow}

-- ---- a kind of record of a cube, by the bytes of a mask

-- what is used of it: it is lawful, a record within a front of bytes is read the same whatever comes after, and the bytes of what is read are those that were there
record Faithful (C : Codec Cube) : Type 0 where
  lawful : Lawful C
  front : (s t : List ℕ) (i : ℕ) → i < length s / C.width → C.read (s ++ t) i ≡ C.read s i
  bytes : (s : List ℕ) → length s % C.width ≡ 0 → ((i : ℕ) → get_or s i 0 < 256) → flat C.enc (list_of C s) ≡ s

whole_is : (w n : ℕ) → n % w ≡ 0 → n ≡ w * (n / w)
whole_is w n e = omega (arith, mod-add-div n w)

module _ (w : ℕ) (wide : positive (w ∷ w ∷ []) ≡ true) (some : 0 < total (w ∷ w ∷ [])) where
  faithful : Faithful (cube_record w)
  unfolding list_of
  faithful = record {
    lawful = record_lawful w wide some;
    front = fields_front (w ∷ w ∷ []) cube_fields cube_of (masks w wide some);
    bytes = λ s e. record_bytes w wide some (length s / total (w ∷ w ∷ [])) s (whole_is (total (w ∷ w ∷ [])) (length s) e);
  }

-- ---- an accepted call, over the kind of record that is read, D, and the kind that is written, C

-- what was accepted, and the buffer after it
record Converts (D C : Codec Cube) (n k : ℕ) (b out out' : List ℕ) : Type 0 where
  taken : AcceptedConversion D C narrow_variables n b (length out) (k ∷ [])
  is : out' ≡ written C 0 (list_of D b) out

module _ {D C : Codec Cube} {n k : ℕ} {b out out' : List ℕ} (G : Faithful C) (T : Converts D C n k b out out') where
  all : length (list_of D b) ≡ k
  all = ap (λ (v : List ℕ). get_or v 0 0) (sym T.taken.count)

  long : length (flat C.enc (list_of D b)) ≡ C.width * k
  long = length_flat C.enc C.width G.lawful.len (list_of D b) ∙ ap (λ (m : ℕ). C.width * m) all

  -- the bytes of the cubes, and then what was there
  parts : out' ≡ flat C.enc (list_of D b) ++ drop (C.width * k) out
  parts = T.is ∙ written_front C G.lawful out (list_of D b) T.taken.fits ∙ ap (λ (m : ℕ). flat C.enc (list_of D b) ++ drop (C.width * m) out) all

  front : take (C.width * k) out' ≡ flat C.enc (list_of D b)
  front = ap (take (C.width * k)) parts ∙ take_at (flat C.enc (list_of D b)) (drop (C.width * k) out) (C.width * k) long

  rest : drop (C.width * k) out' ≡ drop (C.width * k) out
  rest =
      subst (λ (m : ℕ). drop (C.width * m) out' ≡ drop (C.width * m) out) all
      (ap (drop (C.width * length (list_of D b))) T.is ∙ written_rest C G.lawful out (list_of D b) T.taken.fits)

  front_list : list_of C (take (C.width * k) out') ≡ list_of D b
  front_list = ap (list_of C) front ∙ list_flat C G.lawful (list_of D b)

  same_cubes : records C k out' ≡ list_of D b
  same_cubes =
      subst (λ (m : ℕ). records C m out' ≡ list_of D b) all
      (ap (records C (length (list_of D b))) T.is ∙ written_records C G.lawful G.front out (list_of D b) T.taken.fits)

  same_place : (i : ℕ) → i < k → get_or (list_of C out') i one ≡ get_or (list_of D b) i one
  same_place i h =
      let w : ℕ = C.width in
      let room : w * k ≤ length out' =
      subst (λ (m : ℕ). w * m ≤ length out') all (omega (arith, T.taken.fits, ap length T.is, length_written C 0 (list_of D b) out)) in
      list_at C out' i one (room_place w (length out') i G.lawful.wide (le_trans (mul-le-mul_left w h) room))
      ∙ sym (get_or_records C k out' i one h) ∙ ap (λ (l : List Cube). get_or l i one) same_cubes

-- ---- the other way round, on the bytes that were written

module _ {D C : Codec Cube} {n k : ℕ} {b out out' : List ℕ} (F : Faithful D) (G : Faithful C) (T : Converts D C n k b out out')
    (back : List ℕ) (room : length b ≤ length back) where
  abbrev bytes : List ℕ
  bytes = take (C.width * k) out'

  given : D.width * k ≡ length b
  given = ap (λ (m : ℕ). D.width * m) (sym (all G T) ∙ length_list D b) ∙ sym (whole_is D.width (length b) T.taken.list.whole)

  back_taken : AcceptedConversion C D narrow_variables n bytes (length back) (k ∷ [])
  back_taken =
      let l = T.taken.list in
      let same : list_of D b ≡ list_of C bytes = sym (front_list G T) in
      record {
        list = record {
          few = l.few;
          whole = ap (λ (m : ℕ). m % C.width) (ap length (front G T) ∙ long G T) ∙ mul-mod_right C.width k;
          short = subst (λ (m : ℕ). m ≤ most_records) (sym (length_list D b) ∙ ap length same ∙ length_list C bytes) l.short;
          good = subst (All (Good n)) same l.good;
        };
        fits = subst (λ (m : ℕ). m ≤ length back) (sym given ∙ ap (λ (m : ℕ). D.width * m) (sym (all G T) ∙ ap length same)) room;
        count = T.taken.count ∙ ap (λ (m : List Cube). length m ∷ []) same;
      }

  back_undone : ((i : ℕ) → get_or b i 0 < 256) → (o : Outcome) → o ≡ accepted (k ∷ []) → (back' : List ℕ) → back' ≡ written D 0 (list_of C bytes) back
      → Undone o k b back back'
  back_undone small o e back' is =
      let U : Converts C D n k bytes back back' = record { taken = back_taken; is = is } in
      record {
        answer = e;
        bytes = ap (λ (m : ℕ). take m back') (sym given) ∙ front F U ∙ ap (flat D.enc) (front_list G T) ∙ F.bytes b T.taken.list.whole small;
        rest = subst (λ (m : ℕ). drop m back' ≡ drop m back) given (rest F U);
      }

-- ---- the two calls

wide_kind : Faithful cubes
wide_kind = faithful mask_width refl (lit< tt)

narrow_kind : Faithful narrow_cubes
narrow_kind = faithful narrow_mask refl (lit< tt)

wide_done : (n k : ℕ) (b out : List ℕ) → wide_outcome n b (length out) ≡ accepted (k ∷ []) → Converts narrow_cubes cubes n k b out (wide_after n b out)
unfolding wide_after
wide_done n k b out e = record { taken = wide_accepts n b (length out) (k ∷ []) e; is = after_accepted _ _ out (k ∷ []) e }

narrow_done : (n k : ℕ) (b out : List ℕ) → narrow_outcome n b (length out) ≡ accepted (k ∷ []) → Converts cubes narrow_cubes n k b out (narrow_after n b out)
unfolding narrow_after
narrow_done n k b out e = record { taken = narrow_accepts n b (length out) (k ∷ []) e; is = after_accepted _ _ out (k ∷ []) e }

-- Wide from narrow, accepted.
module _ (n k : ℕ) (b out : List ℕ) (e : wide_outcome n b (length out) ≡ accepted (k ∷ [])) where
  -- "wide from narrow gives the same cubes ..
  pub wide_cubes : records cubes k (wide_after n b out) ≡ narrow_cubes_of b
  wide_cubes = same_cubes wide_kind (wide_done n k b out e)

  -- .. at the same places",
  pub wide_place : (i : ℕ) → i < k → get_or (cubes_of (wide_after n b out)) i one ≡ get_or (narrow_cubes_of b) i one
  wide_place = same_place wide_kind (wide_done n k b out e)

  -- it writes these bytes and no more,
  pub wide_rest : drop (record_width * k) (wide_after n b out) ≡ drop (record_width * k) out
  wide_rest = rest wide_kind (wide_done n k b out e)

  -- "and narrow from wide undoes it".
  pub narrow_undoes_wide : ((i : ℕ) → get_or b i 0 < 256) → (back : List ℕ) → length b ≤ length back
      → Undone (narrow_outcome n (take (record_width * k) (wide_after n b out)) (length back)) k b back (narrow_after n (take (record_width * k) (wide_after n b out)) back)
  narrow_undoes_wide small back room =
      let T = wide_done n k b out e in
      let f = accepts_narrow n (take (record_width * k) (wide_after n b out)) (length back) (k ∷ []) (back_taken narrow_kind wide_kind T back room) in
      back_undone narrow_kind wide_kind T back room small _ f _ (narrow_done n k _ back f).is

-- Narrow from wide, accepted: the same of it.
module _ (n k : ℕ) (b out : List ℕ) (e : narrow_outcome n b (length out) ≡ accepted (k ∷ [])) where
  pub narrow_cubes_lem : records narrow_cubes k (narrow_after n b out) ≡ cubes_of b
  narrow_cubes_lem = same_cubes narrow_kind (narrow_done n k b out e)

  pub narrow_place : (i : ℕ) → i < k → get_or (narrow_cubes_of (narrow_after n b out)) i one ≡ get_or (cubes_of b) i one
  narrow_place = same_place narrow_kind (narrow_done n k b out e)

  pub narrow_rest : drop (narrow_width * k) (narrow_after n b out) ≡ drop (narrow_width * k) out
  narrow_rest = rest narrow_kind (narrow_done n k b out e)

  pub wide_undoes_narrow : ((i : ℕ) → get_or b i 0 < 256) → (back : List ℕ) → length b ≤ length back
      → Undone (wide_outcome n (take (narrow_width * k) (narrow_after n b out)) (length back)) k b back (wide_after n (take (narrow_width * k) (narrow_after n b out)) back)
  wide_undoes_narrow small back room =
      let T = narrow_done n k b out e in
      let f = accepts_wide n (take (narrow_width * k) (narrow_after n b out)) (length back) (k ∷ []) (back_taken wide_kind narrow_kind T back room) in
      back_undone wide_kind narrow_kind T back room small _ f _ (wide_done n k _ back f).is

-- The converters, between old lists of 4-byte records and lists of 8-byte records. Document 02, Seven: "Old lists stay in use: wide from narrow gives the same
-- cubes at the same places, and narrow from wide undoes it." Stated of the cubes that each kind of record is read as, over calls that were accepted; which are,
-- and what the others are refused by, is demand 1.
-- Assumes nothing.
use mathlib.Core.Path.{◌≡◌, sym, ap, ◌∙◌}
use mathlib.Core.List.{List, [], ◌∷◌}
use Prim.Native.Nat.{ℕ, ◌*◌, ◌≤◌, ◌<◌}
use lib.ListN.{length, get_or, take, drop}
use Rattle.records.specs.Records.{records}
use Rattle.records.specs.Answers.{Outcome, accepted}
use Rattle.cube.specs.Cubes.{one}
use Rattle.cube.specs.declared.Cube.{Cube}
use Rattle.cube.specs.Lists.{record_width, cubes, cubes_of, list_value}
use Rattle.converters.specs.NarrowRecord.{narrow_width, narrow_cubes, narrow_cubes_of}
use Rattle.converters.specs.Calls.{wide_after, narrow_after}
use Rattle.converters.specs.Undone.{Undone}
use Rattle.converters.proofs.Converted.{wide_cubes, wide_place, wide_rest, narrow_undoes_wide, narrow_cubes_lem, narrow_place, narrow_rest, wide_undoes_narrow}
use Rattle.promises.specs.Calls.{wide_from_narrow, narrow_from_wide, answers, leaves, Called}
use Rattle.promises.proofs.Calling.{only}

-- what is known of a call on bytes that are known otherwise, and of its answer and its buffer
undone_of : (answer : List ℕ → Outcome) (after : List ℕ → List ℕ) (k : ℕ) (list back : List ℕ) {s t : List ℕ} → s ≡ t → Undone (answer s) k list back (after s)
    → {o : Outcome} → o ≡ answer t → {back' : List ℕ} → back' ≡ after t → Undone o k list back back'
undone_of answer after k list back same u eo eb = record {
  answer = eo ∙ ap answer (sym same) ∙ u.answer;
  bytes = ap (take (length list)) (eb ∙ ap after (sym same)) ∙ u.bytes;
  rest = ap (drop (length list)) (eb ∙ ap after (sym same)) ∙ u.rest;
}

-- Wide from narrow, accepted with the count k.
module _ (n k : ℕ) (list out out' : List ℕ) (called : Called (wide_from_narrow n list out) (accepted (k ∷ [])) (out' ∷ [])) where
  wide_is : out' ≡ wide_after n list out
  unfolding leaves
  wide_is = only called.left

  -- The same cubes ..
  pub wide_same_cubes : records cubes k out' ≡ narrow_cubes_of list
  unfolding answers
  wide_same_cubes = ap (records cubes k) wide_is ∙ wide_cubes n k list out (sym called.answer)

  -- .. stand at the same places, ..
  pub wide_same_places : (i : ℕ) → i < k → get_or (cubes_of out') i one ≡ get_or (narrow_cubes_of list) i one
  unfolding answers
  wide_same_places i h = ap (λ (b : List ℕ). get_or (cubes_of b) i one) wide_is ∙ wide_place n k list out (sym called.answer) i h

  -- .. so that the value is the same at every assignment; ..
  pub wide_same_value : (a : ℕ) → list_value n (records cubes k out') a ≡ list_value n (narrow_cubes_of list) a
  wide_same_value a = ap (λ (l : List Cube). list_value n l a) wide_same_cubes

  -- .. the bytes after them are as they were; ..
  pub wide_no_more : drop (record_width * k) out' ≡ drop (record_width * k) out
  unfolding answers
  wide_no_more = ap (drop (record_width * k)) wide_is ∙ wide_rest n k list out (sym called.answer)

  -- .. and narrow from wide, of the bytes that were written, is accepted where it has room and returns the given bytes.
  pub wide_then_narrow : ((i : ℕ) → get_or list i 0 < 256) → (o : Outcome) (back back' : List ℕ) → length list ≤ length back
      → Called (narrow_from_wide n (take (record_width * k) out') back) o (back' ∷ []) → Undone o k list back back'
  unfolding answers leaves
  wide_then_narrow small o back back' room again =
      undone_of (λ b. answers (narrow_from_wide n b back)) (λ b. narrow_after n b back) k list back (ap (take (record_width * k)) (sym wide_is))
      (narrow_undoes_wide n k list out (sym called.answer) small back room) again.answer (only again.left)

-- Narrow from wide, accepted with the count k: the same of it.
module _ (n k : ℕ) (list out out' : List ℕ) (called : Called (narrow_from_wide n list out) (accepted (k ∷ [])) (out' ∷ [])) where
  narrow_is : out' ≡ narrow_after n list out
  unfolding leaves
  narrow_is = only called.left

  pub narrow_same_cubes : records narrow_cubes k out' ≡ cubes_of list
  unfolding answers
  narrow_same_cubes = ap (records narrow_cubes k) narrow_is ∙ narrow_cubes_lem n k list out (sym called.answer)

  pub narrow_same_places : (i : ℕ) → i < k → get_or (narrow_cubes_of out') i one ≡ get_or (cubes_of list) i one
  unfolding answers
  narrow_same_places i h = ap (λ (b : List ℕ). get_or (narrow_cubes_of b) i one) narrow_is ∙ narrow_place n k list out (sym called.answer) i h

  pub narrow_same_value : (a : ℕ) → list_value n (records narrow_cubes k out') a ≡ list_value n (cubes_of list) a
  narrow_same_value a = ap (λ (l : List Cube). list_value n l a) narrow_same_cubes

  pub narrow_no_more : drop (narrow_width * k) out' ≡ drop (narrow_width * k) out
  unfolding answers
  narrow_no_more = ap (drop (narrow_width * k)) narrow_is ∙ narrow_rest n k list out (sym called.answer)

  pub narrow_then_wide : ((i : ℕ) → get_or list i 0 < 256) → (o : Outcome) (back back' : List ℕ) → length list ≤ length back
      → Called (wide_from_narrow n (take (narrow_width * k) out') back) o (back' ∷ []) → Undone o k list back back'
  unfolding answers leaves
  narrow_then_wide small o back back' room again =
      undone_of (λ b. answers (wide_from_narrow n b back)) (λ b. wide_after n b back) k list back (ap (take (narrow_width * k)) (sym narrow_is))
      (wide_undoes_narrow n k list out (sym called.answer) small back room) again.answer (only again.left)

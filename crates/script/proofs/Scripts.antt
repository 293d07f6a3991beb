-- The records of a script, both ways: steps and records, records and bytes.
-- Assumes nothing.
use mathlib.Core.Path.{◌≡◌, refl, sym, ap, ◌∙◌, subst}
use mathlib.Core.Bool.{true, false≢true}
use mathlib.Core.List.{List, [], ◌∷◌, map}
use Prim.Native.Nat.{ℕ, zero, suc, ◌*◌, ◌/◌, ◌%◌, ◌≤◌, ◌<◌}
use native.Mathlib.Omega.{arith}
use lib.Dec.{eqb, ltb, leb}
use lib.ListN.{length, get_or, take, drop as dropped, length-map, get_or-map}
use lib.Seq.{take_at}
use borrow.Author.Tests.{eqb-true, eq-eqb, ltb-true, leb-true, lt-ltb, le-leb}
use Rattle.bits.specs.Sums.{All}
use Rattle.bits.proofs.Bools.{both_true, true_both}
use Rattle.bits.proofs.Sums.{all_get_or, all_map, map_same, map_map, map_back}
use Rattle.records.specs.Records.{flat, list_of, written}
use Rattle.records.specs.Answers.{accepted}
use Rattle.records.proofs.Checks.{checked, AcceptedRecords, records_accepted, accepted_records}
use Rattle.records.proofs.Fields.{Fields, fields_lawful, fields_bytes}
use Rattle.records.proofs.Images.{length_flat}
use Rattle.records.proofs.Records.{Lawful, length_list, list_flat, written_front, written_rest}
use Rattle.steps.specs.declared.StepRecord.{StepRecord}
use Rattle.steps.specs.Steps.{Step, drop, join, split, turn, L, Allowed, meaning}
use Rattle.steps.specs.Calls.{Known}
use Rattle.script.specs.Scripts.{step_width, most_steps, step_records, known, uses_v, uses_i, uses_j, uses_literal, field, fits, record_of, steps_of}
use Rattle.script.specs.Calls.{check_script}

-- ---- steps and their records

-- the step of a step's record is the step
pub meaning_record : (s : Step) → meaning (record_of s) ≡ s
unfolding meaning record_of
meaning_record (drop i j) = refl
meaning_record (join i j) = refl
meaning_record (split v i) = refl
meaning_record (turn v i j) = refl
meaning_record (L v b) = refl

-- what refusal 9 tests, one by one
pub record Fitting (n : ℕ) (r : StepRecord) : Type 0 where
  pub op_known : known r.op ≡ true
  pub v_fits : field (uses_v r.op) (ltb r.v n) r.v ≡ true
  pub i_fits : field (uses_i r.op) true r.i ≡ true
  pub j_fits : field (uses_j r.op) true r.j ≡ true
  pub literal_fits : field (uses_literal r.op) (leb r.literal 1) r.literal ≡ true
  pub zero_fits : r.zero ≡ 0

module _ (n : ℕ) (r : StepRecord) where
  pub fits_parts : fits n r ≡ true → Fitting n r
  unfolding fits
  fits_parts e =
      let a = both_true _ _ e in
      let b = both_true _ _ a.1 in
      let c = both_true _ _ b.1 in
      let d = both_true _ _ c.1 in
      let f = both_true _ _ d.1 in
      record { op_known = a.0; v_fits = b.0; i_fits = c.0; j_fits = d.0; literal_fits = f.0; zero_fits = eqb-true r.zero 0 f.1 }

  pub parts_fits : Fitting n r → fits n r ≡ true
  unfolding fits
  parts_fits p =
      true_both p.op_known (true_both p.v_fits (true_both p.i_fits (true_both p.j_fits (true_both p.literal_fits (eq-eqb r.zero 0 p.zero_fits)))))

-- equal field by field
pub same_record : (r s : StepRecord) → r.op ≡ s.op → r.v ≡ s.v → r.i ≡ s.i → r.j ≡ s.j → r.literal ≡ s.literal → r.zero ≡ s.zero → r ≡ s
same_record r s a b c d e f = λ k. record { op = a k; v = b k; i = c k; j = d k; literal = e k; zero = f k }

-- a record that is not refused is the record of its step, and its step fits
record Meant (n : ℕ) (r : StepRecord) : Type 0 where
  same : record_of (meaning r) ≡ r
  fit : Allowed n (meaning r)

known_le : (op : ℕ) → known op ≡ true → op ≤ 5
known_le op e = leb-true op 5 (both_true (leb 1 op) (leb op 5) e).1

is_zero : {x : ℕ} → eqb x 0 ≡ true → 0 ≡ x
is_zero {x} e = sym (eqb-true x 0 e)

meant : (n op v i j literal z : ℕ) → (let r : StepRecord = record { op = op; v = v; i = i; j = j; literal = literal; zero = z } in Fitting n r → Meant n r)
unfolding record_of meaning
meant n zero v i j literal z p = absurd (false≢true p.op_known)
meant n (suc zero) v i j literal z p =
    record { same = same_record _ _ refl (is_zero p.v_fits) refl refl (is_zero p.literal_fits) (sym p.zero_fits); fit = tt {0} }
meant n (suc (suc zero)) v i j literal z p =
    record { same = same_record _ _ refl (is_zero p.v_fits) refl refl (is_zero p.literal_fits) (sym p.zero_fits); fit = tt {0} }
meant n (suc (suc (suc zero))) v i j literal z p =
    record { same = same_record _ _ refl refl refl (is_zero p.j_fits) (is_zero p.literal_fits) (sym p.zero_fits); fit = ltb-true v n p.v_fits }
meant n (suc (suc (suc (suc zero)))) v i j literal z p =
    record { same = same_record _ _ refl refl refl refl (is_zero p.literal_fits) (sym p.zero_fits); fit = ltb-true v n p.v_fits }
meant n (suc (suc (suc (suc (suc zero))))) v i j literal z p = record {
  same = same_record _ _ refl refl (is_zero p.i_fits) (is_zero p.j_fits) refl (sym p.zero_fits);
  fit = (ltb-true v n p.v_fits, omega (arith, leb-true literal 1 p.literal_fits));
}
meant n (suc (suc (suc (suc (suc (suc op)))))) v i j literal z p =
    absurd (omega (arith, known_le (suc (suc (suc (suc (suc (suc op)))))) p.op_known))

module _ (n : ℕ) (r : StepRecord) (e : fits n r ≡ true) where
  parted : Meant n r
  parted = meant n r.op r.v r.i r.j r.literal r.zero (fits_parts n r e)

  -- a record that is not refused is the record of its step
  pub record_meaning : record_of (meaning r) ≡ r
  record_meaning = parted.same

  -- and its step fits
  pub meaning_fits : Allowed n (meaning r)
  meaning_fits = parted.fit

-- it is of one of the five operations
pub fits_known : (n : ℕ) (r : StepRecord) → fits n r ≡ true → Known n r
fits_known n r e =
    let p = both_true (leb 1 r.op) (leb r.op 5) (fits_parts n r e).op_known in
    record { least = leb-true _ _ p.0; most = leb-true _ _ p.1; fits = meaning_fits n r e }

-- the record of a step that fits is not refused
fits_record : (n : ℕ) (s : Step) → Allowed n s → fits n (record_of s) ≡ true
unfolding record_of fits
fits_record n (drop i j) h = refl
fits_record n (join i j) h = refl
fits_record n (split v i) h = simp (lt-ltb v n h)
fits_record n (turn v i j) h = simp (lt-ltb v n h)
fits_record n (L v b) h = simp (lt-ltb v n h.0, le-leb b 1 (omega (arith, h.1)))

-- ---- records and their bytes

pub step_fields : Fields (1 ∷ 1 ∷ 2 ∷ 2 ∷ 1 ∷ 1 ∷ []) (λ (r : StepRecord). r.op ∷ r.v ∷ r.i ∷ r.j ∷ r.literal ∷ r.zero ∷ [])
    (λ xs. record { op = get_or xs 0 0; v = get_or xs 1 0; i = get_or xs 2 0; j = get_or xs 3 0; literal = get_or xs 4 0; zero = get_or xs 5 0 })
step_fields = record { wide = refl; some = omega arith; many = λ r. refl; back = λ r. refl; there = λ b base. refl; none = refl }

-- the codec is lawful: its records are 8 bytes, and each is read back from where it stands
pub steps_lawful : Lawful step_records
steps_lawful = fields_lawful _ _ _ step_fields

-- the bytes of the records of a script are the script's bytes
pub bytes_of_records : (b : List ℕ) → All (λ x. x < 256) b → length b % step_width ≡ 0 → flat step_records.enc (list_of step_records b) ≡ b
unfolding list_of
bytes_of_records b bytes e =
    fields_bytes _ _ _ step_fields (length b / 8) b (omega arith) (λ p. all_get_or (λ x. x < 256) b p 0 bytes (omega arith))

-- the records of the bytes of records are those records
pub records_of_bytes : (l : List StepRecord) → list_of step_records (flat step_records.enc l) ≡ l
records_of_bytes = list_flat step_records steps_lawful

-- ---- a script's records and its steps

pub length_script : (b : List ℕ) → length (steps_of b) ≡ length b / step_width
unfolding steps_of
length_script b = length-map (list_of step_records b) meaning ∙ length_list step_records b

-- past the end too: a record that is all zero means drop 0 0
pub meaning_at : (b : List ℕ) (k : ℕ) → meaning (get_or (list_of step_records b) k step_records.none) ≡ get_or (steps_of b) k (drop 0 0)
unfolding steps_of meaning
meaning_at b k = sym (get_or-map meaning (list_of step_records b) k step_records.none)

-- ---- scripts and their bytes

-- the bytes of a script's steps
abbrev pub script_bytes : List Step → List ℕ
script_bytes xs = flat step_records.enc (map record_of xs)

-- a script that was written is read back
pub script_read : (xs : List Step) → steps_of (script_bytes xs) ≡ xs
unfolding steps_of
script_read xs =
    ap (map meaning) (records_of_bytes (map record_of xs)) ∙ map_map meaning record_of xs ∙ (λ k. map (λ x. meaning_record x k) xs) ∙ sym (map_same xs)

-- a script that is not refused, written again, has the same bytes
pub script_written : (n : ℕ) (b : List ℕ) → All (λ x. x < 256) b → length b % step_width ≡ 0 → All (λ r. fits n r ≡ true) (list_of step_records b)
    → script_bytes (steps_of b) ≡ b
unfolding steps_of
script_written n b bytes e a =
    ap (flat step_records.enc) (map_back (λ r. fits n r ≡ true) meaning record_of (record_meaning n) (list_of step_records b) a) ∙ bytes_of_records b bytes e

-- the steps of a script that is not refused fit
pub script_fits : (n : ℕ) (b : List ℕ) → All (λ r. fits n r ≡ true) (list_of step_records b) → All (Allowed n) (steps_of b)
unfolding steps_of
script_fits n b a = all_map (λ r. fits n r ≡ true) (Allowed n) meaning (meaning_fits n) (list_of step_records b) a

-- ---- the check of a script: of its records

pub script_records : (n : ℕ) (b : List ℕ) → checked step_records (fits n) 7 8 9 most_steps b ≡ check_script n b
unfolding check_script
script_records n b = refl

-- what an accepted script is
abbrev pub AcceptedScript : ℕ → List ℕ → Type 0
AcceptedScript n b = AcceptedRecords step_records (fits n) most_steps b

pub script_accepts : (n : ℕ) (b v : List ℕ) → check_script n b ≡ accepted v → AcceptedScript n b
script_accepts n b v e = records_accepted step_records (fits n) 7 8 9 most_steps b v (script_records n b ∙ e)

-- and a script that is so is accepted
pub accepts_script : (n : ℕ) (b : List ℕ) → AcceptedScript n b → check_script n b ≡ accepted (length b / step_width ∷ [])
accepts_script n b a = sym (script_records n b) ∙ accepted_records step_records (fits n) 7 8 9 most_steps b a

length_steps : (l : List StepRecord) → length (flat step_records.enc l) ≡ step_width * length l
length_steps l = length_flat step_records.enc step_width steps_lawful.len l

-- the bytes of records that fit, and are not too many, pass 7, 8 and 9
pub records_pass : (n : ℕ) (l : List StepRecord) → length l ≤ most_steps → All (λ r. fits n r ≡ true) l
    → check_script n (flat step_records.enc l) ≡ accepted (length l ∷ [])
records_pass n l few a =
    let count : length (flat step_records.enc l) / step_width ≡ length l = omega (arith, length_steps l) in
    accepts_script n (flat step_records.enc l) (record {
      whole = omega (arith, length_steps l);
      short = omega (arith, count, few);
      each = subst (All (λ r. fits n r ≡ true)) (sym (records_of_bytes l)) a;
    })
    ∙ ap (λ (k : ℕ). accepted (k ∷ [])) count

-- ---- steps that are written to the front of a buffer, which a call that makes a script does

module _ (xs : List Step) where
  length_script_bytes : length (script_bytes xs) ≡ step_width * length xs
  length_script_bytes = length_steps (map record_of xs) ∙ ap (λ (k : ℕ). step_width * k) (length-map xs record_of)

  -- the bytes of steps that fit, and are not too many, pass 7, 8 and 9
  pub steps_pass : (n : ℕ) → length xs ≤ most_steps → All (Allowed n) xs → check_script n (script_bytes xs) ≡ accepted (length xs ∷ [])
  steps_pass n few a =
      let many : length (map record_of xs) ≡ length xs = length-map xs record_of in
      records_pass n (map record_of xs) (omega (arith, many, few)) (all_map (Allowed n) (λ r. fits n r ≡ true) record_of (fits_record n) xs a)
      ∙ ap (λ (k : ℕ). accepted (k ∷ [])) many

  -- they are its front, and the rest of it is as it was
  module _ (b : List ℕ) (room : step_width * length xs ≤ length b) where
    fit : step_width * length (map record_of xs) ≤ length b
    fit = omega (arith, length-map xs record_of)

    pub steps_front : take (step_width * length xs) (written step_records 0 (map record_of xs) b) ≡ script_bytes xs
    steps_front =
        ap (take (step_width * length xs)) (written_front step_records steps_lawful b (map record_of xs) fit)
        ∙ take_at (script_bytes xs) (dropped (step_width * length (map record_of xs)) b) (step_width * length xs) length_script_bytes

    pub steps_rest : dropped (step_width * length xs) (written step_records 0 (map record_of xs) b) ≡ dropped (step_width * length xs) b
    steps_rest =
        subst (λ (k : ℕ). dropped (step_width * k) (written step_records 0 (map record_of xs) b) ≡ dropped (step_width * k) b) (length-map xs record_of)
        (written_rest step_records steps_lawful b (map record_of xs) fit)

-- A script that is read as text and printed again: every step that was read fits its line, but for a literal that no script may have, so the text reads as the same steps.
-- Assumes nothing.
use mathlib.Core.Path.{◌≡◌, refl, subst}
use mathlib.Core.Bool.{Bool, true, false, cond, ◌&&◌, true≢false}
use mathlib.Core.List.{List, [], ◌∷◌}
use Prim.Native.Nat.{ℕ, ◌+◌, ◌≤◌}
use native.Mathlib.Nat.{le_trans}
use native.Mathlib.Omega.{arith}
use lib.Dec.{eqb, ltb, leb}
use lib.ListN.{length, get_or, length-append}
use borrow.Author.Tests.{eq-eqb, eqb-true, leb-true, le-leb, lt-ltb}
use Rattle.std.specs.Prelude.{Ok, Err}
use Rattle.bits.specs.Sums.{All}
use Rattle.bits.proofs.Bools.{both_true, true_both}
use Rattle.bits.proofs.Sums.{all_each, all_snoc}
use Rattle.records.specs.Records.{flat}
use Rattle.records.specs.Answers.{accepted}
use Rattle.steps.specs.declared.StepRecord.{StepRecord}
use Rattle.script.specs.Scripts.{step_records, most_steps, known, uses_v, uses_i, uses_j, uses_literal, field, fits}
use Rattle.script.specs.Calls.{check_script}
use Rattle.script.proofs.Scripts.{fits_parts, parts_fits, records_of_bytes, script_accepts}
use Rattle.shared_run.specs.SharedScripts.{shared_fits, check_shared_script}
use Rattle.shared_run.proofs.SharedScripts.{shared_script_accepts}
use Rattle.text.specs.Blanks.{past_blanks}
use Rattle.text.specs.Steps.{drop_word, join_word, split_word, turn_word, l_word, variable_lead}
use Rattle.text.specs.Reading.{word_in, on_read, field_at, operation_at, fields_at, step_in, Reading}
use Rattle.text.proofs.Fields.{AtMost, field_most}
use Rattle.lines.specs.Lines.{content}
use Rattle.lines.specs.Words.{blank_from}
use Rattle.lines.specs.Gathering.{Says, knows, has, over, bad, Progress}
use Rattle.lines.specs.Gathering as progress_is
use Rattle.script_lines.specs.Scripts.{merge_operation, merge_word, script_text, merge_in, any_step_in, alone, step_before, line_says, each, read_through, Script, made, wrong, at_end, script_of}
use Rattle.script_lines.proofs.ReadBack.{merge_fits, line_fits, script_back, script_short}
use Rattle.text_promises.proofs.Gathered.{by_test, After, Throughout, gathered_keeps}

-- ---- what is read of a number

-- P holds of whatever number is read
abbrev Of : (ℕ → Type 0) → Reading ℕ → Type 0
Of P (Ok a) = P a.value
Of P (Err w) = Unit {0}

word_of : (P : ℕ → Type 0) (number : ℕ) → P number → (w t : List ℕ) (p : ℕ) → Of P (word_in number w t p)
unfolding word_in
word_of P number h [] t p = h
word_of P number h (x ∷ w) t p = by_test (Of P) (ltb p (length t) && eqb (get_or t p 0) x) (λ e. word_of P number h w t (p + 1)) (λ e. tt)

-- one of the five operations of a plain script
abbrev Plain : ℕ → Type 0
Plain op = (known op ≡ true) × (eqb op merge_operation ≡ false)

operation_of_lem : (t : List ℕ) (p : ℕ) → Of Plain (operation_at t p)
unfolding operation_at
operation_of_lem t p =
    by_test (Of Plain) (eqb (get_or t p 0) 100) (λ e. word_of Plain 1 (refl, refl) drop_word t p)
    (λ e. by_test (Of Plain) (eqb (get_or t p 0) 106) (λ e. word_of Plain 2 (refl, refl) join_word t p)
    (λ e. by_test (Of Plain) (eqb (get_or t p 0) 115) (λ e. word_of Plain 3 (refl, refl) split_word t p)
    (λ e. by_test (Of Plain) (eqb (get_or t p 0) 116) (λ e. word_of Plain 4 (refl, refl) turn_word t p)
    (λ e. word_of Plain 5 (refl, refl) l_word t p))))

-- a field's number: within its bytes, and zero where the field is not used
abbrev Within : Bool → ℕ → ℕ → Type 0
Within used most x = (x ≤ most) × (used ≡ false → x ≡ 0)

field_of : (used : Bool) (lead : List ℕ) (most : ℕ) (t : List ℕ) (p : ℕ) → Of (Within used most) (field_at used lead most t p)
unfolding field_at
field_of true lead most t p = go (field_at true lead most t p) (field_most true lead most t p)
  where
    go : (r : Reading ℕ) → AtMost most r → Of (Within true most) r
    go (Ok a) h = (h, λ e. absurd (true≢false e))
    go (Err w) h = tt
field_of false lead most t p = (omega arith, λ e. refl)

-- it passes rule 9 where its test passes
field_passes : (used test : Bool) (x most : ℕ) → Within used most x → (x ≤ most → test ≡ true) → field used test x ≡ true
field_passes true test x most w h = h w.0
field_passes false test x most w h = eq-eqb x 0 (w.1 refl)

-- ---- what is read of a step

-- a step that fits its line, if its literal is one that a script may have
abbrev FitsIf : StepRecord → Type 0
FitsIf r = r.literal ≤ 1 → line_fits r ≡ true

abbrev StepFits : Reading StepRecord → Type 0
StepFits (Ok a) = FitsIf a.value
StepFits (Err w) = Unit {0}

record Fitting (r : Reading StepRecord) : Type 0 where
  fit : StepFits r

on_field_lem : (P : ℕ → Type 0) (r : Reading ℕ) → Of P r → {k : ℕ → ℕ → Reading StepRecord} → ((x p : ℕ) → P x → Fitting (k x p)) → Fitting (on_read r k)
on_field_lem P (Ok a) h f = f a.value a.next h
on_field_lem P (Err w) h f = record { fit = tt }

-- the step of what is read
abbrev step_of : ℕ → ℕ → ℕ → ℕ → ℕ → StepRecord
step_of op v i j literal = record { op = op; v = v; i = i; j = j; literal = literal; zero = 0 }

-- the places have two bytes each
places_fit : (r : StepRecord) → r.i ≤ 65535 → r.j ≤ 65535 → cond (eqb r.op merge_operation) (merge_fits r) (fits 256 r) ≡ true → line_fits r ≡ true
places_fit r i j e = true_both e (true_both (le-leb r.i 65535 i) (le-leb r.j 65535 j))

merge_fits_lem : (t : List ℕ) (p : ℕ) → Fitting (merge_in t p)
unfolding merge_in
merge_fits_lem t p =
    on_field_lem (λ op. op ≡ 6) (word_in merge_operation merge_word t p) (word_of (λ op. op ≡ 6) 6 refl merge_word t p) (λ op a six.
    on_field_lem (Within true 65535) (field_at true [] 65535 t a) (field_of true [] 65535 t a) (λ i b f.
    on_field_lem (Within true 65535) (field_at true [] 65535 t b) (field_of true [] 65535 t b) (λ j z g.
    record { fit = λ low. places_fit (step_of op 0 i j 0) f.0 g.0 (rw (eq-eqb op 6 six)) })))

plain_fits : (r : StepRecord) → Plain r.op → Within (uses_v r.op) 255 r.v → Within (uses_i r.op) 65535 r.i → Within (uses_j r.op) 65535 r.j
    → Within (uses_literal r.op) 255 r.literal → r.zero ≡ 0 → FitsIf r
plain_fits r op v i j x z low =
    let rule : fits 256 r ≡ true =
    parts_fits 256 r (record {
      op_known = op.0;
      v_fits = field_passes (uses_v r.op) (ltb r.v 256) r.v 255 v (λ h. lt-ltb r.v 256 (omega arith));
      i_fits = field_passes (uses_i r.op) true r.i 65535 i (λ h. refl);
      j_fits = field_passes (uses_j r.op) true r.j 65535 j (λ h. refl);
      literal_fits = field_passes (uses_literal r.op) (leb r.literal 1) r.literal 255 x (λ h. le-leb r.literal 1 low);
      zero_fits = z;
    }) in
    places_fit r i.0 j.0 (rw op.1 rule)

step_fits : (t : List ℕ) (p : ℕ) → Fitting (step_in t p)
unfolding step_in fields_at
step_fits t p =
    on_field_lem Plain (operation_at t p) (operation_of_lem t p) (λ op q o.
    on_field_lem (Within (uses_v op) 255) (field_at (uses_v op) variable_lead 255 t q) (field_of (uses_v op) variable_lead 255 t q) (λ v a f.
    on_field_lem (Within (uses_i op) 65535) (field_at (uses_i op) [] 65535 t a) (field_of (uses_i op) [] 65535 t a) (λ i b g.
    on_field_lem (Within (uses_j op) 65535) (field_at (uses_j op) [] 65535 t b) (field_of (uses_j op) [] 65535 t b) (λ j e h.
    on_field_lem (Within (uses_literal op) 255) (field_at (uses_literal op) [] 255 t e) (field_of (uses_literal op) [] 255 t e) (λ x z k.
    record { fit = plain_fits (step_of op v i j x) o f g h k refl })))))

any_fits : (t : List ℕ) (p : ℕ) → Fitting (any_step_in t p)
unfolding any_step_in
any_fits t p = by_test Fitting (eqb (get_or t p 0) 109) (λ e. merge_fits_lem t p) (λ e. step_fits t p)

-- ---- the steps of a text

-- every step that was read, of which there are no more than there is room for
record ReadSteps (room : ℕ) (u : Unit {0}) (l : List StepRecord) : Type 0 where
  fit : All FitsIf l
  short : length l ≤ room

-- what a line says is nothing, a step that fits, or refused
abbrev LineFits : Says (Unit {0}) StepRecord → Type 0
LineFits (knows u) = Unit {0}
LineFits (has u r) = FitsIf r
LineFits over = Unit {0}
LineFits (bad number) = Unit {0}

alone_fits : (c : List ℕ) (r : Reading StepRecord) → StepFits r → LineFits (alone c r)
alone_fits c (Ok a) h = by_test LineFits (blank_from c a.next) (λ e. h) (λ e. tt)
alone_fits c (Err w) h = tt

line_fits_lem : (k : ℕ) (u : Unit {0}) (x : List ℕ) → LineFits (line_says k u x)
unfolding line_says step_before
line_fits_lem k u x =
    let c : List ℕ = content x in
    by_test LineFits (blank_from c 0) (λ e. tt) (λ e. alone_fits c (any_step_in c (past_blanks c 0)) (any_fits c (past_blanks c 0)).fit)

module _ (room : ℕ) where
  by_line_lem : (u : Unit {0}) (l : List StepRecord) → ReadSteps room u l → (s : Says (Unit {0}) StepRecord) → LineFits s → After each room (ReadSteps room) l s
  by_line_lem u l r (knows u') f = record { fit = r.fit; short = r.short }
  by_line_lem u l r (has u' x) f = (
    λ e more. record { fit = all_snoc FitsIf l x r.fit f; short = omega (arith, length-append l (x ∷ [])) },
    λ e. record { fit = r.fit; short = r.short },
  )
  by_line_lem u l r over f = tt
  by_line_lem u l r (bad number) f = tt

  whole_text : (t : List ℕ) → Throughout (ReadSteps room) (read_through room t)
  unfolding read_through
  whole_text t =
      gathered_keeps line_says each 35 room (ReadSteps room) (λ k u l r x. by_line_lem u l r (line_says k u x) (line_fits_lem k u x)) 36 tt t (record { fit = tt; short = omega arith })

  abbrev AreRead : Script → Type 0
  AreRead (made l) = ReadSteps room tt l
  AreRead (wrong number k) = Unit {0}

  end_read : (p : Progress (Unit {0}) StepRecord) → Throughout (ReadSteps room) p → AreRead (at_end p)
  end_read (progress_is.before u l k) r = record { fit = r.fit; short = r.short }
  end_read (progress_is.ended u l k) r = record { fit = r.fit; short = r.short }
  end_read (progress_is.refused_by number k) r = tt

  text_read : (t : List ℕ) → AreRead (script_of room t)
  unfolding script_of
  text_read t = end_read (read_through room t) (whole_text t)

-- ---- the promises

all_fit : (l : List StepRecord) → All FitsIf l → All (λ r. r.literal ≤ 1) l → All (λ r. line_fits r ≡ true) l
all_fit [] f g = tt
all_fit (r ∷ l) f g = (f.0 g.0, all_fit l f.1 g.1)

-- a literal that passed rule 9 is at most 1, used or not
literal_low : (used : Bool) (x : ℕ) → field used (leb x 1) x ≡ true → x ≤ 1
literal_low true x e = leb-true x 1 e
literal_low false x e = omega (arith, eqb-true x 0 e)

fits_low : (n : ℕ) (r : StepRecord) → fits n r ≡ true → r.literal ≤ 1
fits_low n r e = literal_low (uses_literal r.op) r.literal (fits_parts n r e).literal_fits

shared_fits_low : (n : ℕ) (r : StepRecord) → shared_fits n r ≡ true → r.literal ≤ 1
unfolding shared_fits
shared_fits_low n r e = go (eqb r.op merge_operation) e
  where
    go : (s : Bool) → cond s (merge_fits r) (fits n r) ≡ true → r.literal ≤ 1
    go true f =
        let a = both_true (eqb r.v 0) (eqb r.literal 0 && eqb r.zero 0) f in
        literal_low false r.literal (both_true (eqb r.literal 0) (eqb r.zero 0) a.1).0
    go false f = fits_low n r f

module _ (room : ℕ) (t : List ℕ) (l : List StepRecord) (read : script_of room t ≡ made l) where
  steps : ReadSteps room tt l
  steps = subst (AreRead room) read (text_read room t)

  -- Every step of a script that is read fits a line of a script, where its literal is 0 or 1, as rule 9 asks of every script.
  pub read_steps_fit : All (λ r. r.literal ≤ 1) l → All (λ r. line_fits r ≡ true) l
  read_steps_fit low = all_fit l steps.fit low

  module _ (most : room ≤ most_steps) where
    -- So, printed, it is a text that reads as the same steps in their order.
    pub script_again : All (λ r. r.literal ≤ 1) l → script_of room (script_text l) ≡ made l
    script_again low =
        let f = read_steps_fit low in
        script_back room l f steps.short (script_short l f (le_trans steps.short most))

    -- That is every script as text whose bytes are let through as a script for a list, of whatever number of variables, ..
    pub plain_script_again : (n : ℕ) (v : List ℕ) → check_script n (flat step_records.enc l) ≡ accepted v → script_of room (script_text l) ≡ made l
    plain_script_again n v e =
        script_again (all_each (λ r. fits n r ≡ true) (λ r. r.literal ≤ 1) (fits_low n) l
        (subst (All (λ r. fits n r ≡ true)) (records_of_bytes l) (script_accepts n (flat step_records.enc l) v e).each))

    -- .. or for a list of shared products.
    pub shared_script_again : (n : ℕ) (v : List ℕ) → check_shared_script n (flat step_records.enc l) ≡ accepted v → script_of room (script_text l) ≡ made l
    shared_script_again n v e =
        script_again (all_each (λ r. shared_fits n r ≡ true) (λ r. r.literal ≤ 1) (shared_fits_low n) l
        (subst (All (λ r. shared_fits n r ≡ true)) (records_of_bytes l) (shared_script_accepts n (flat step_records.enc l) v e).each))

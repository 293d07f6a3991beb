-- A script that was printed reads back as what it was.
-- Assumes nothing.
use mathlib.Core.Path.{◌≡◌, refl, sym, ap, ap₂, subst, ◌∙◌}
use mathlib.Core.Bool.{Bool, true, false, cond, ◌&&◌}
use mathlib.Core.List.{List, [], ◌∷◌, ◌++◌, append_assoc, append-nil}
use Prim.Native.Nat.{ℕ, suc, ◌+◌, ◌≤◌}
use native.Mathlib.Omega.{arith}
use lib.Dec.{eqb, ltb, leb}
use lib.ListN.{length, get_or, drop, length-append}
use lib.Seq.{drop-length}
use borrow.Author.Tests.{eq-eqb, eqb-true, ltb-true, leb-true, lt-ltb}
use Rattle.bits.specs.Sums.{All}
use Rattle.bits.proofs.Bools.{both_true}
use Rattle.bits.proofs.Sums.{all_each}
use Rattle.steps.specs.declared.StepRecord.{StepRecord}
use Rattle.steps.specs.Steps.{Step, meaning}
use Rattle.steps.specs.Steps as step_of
use Rattle.script.specs.Scripts.{fits, record_of, field, uses_v, uses_literal, most_steps}
use Rattle.script.proofs.Scripts.{Fitting, fits_parts, record_meaning, same_record}
use Rattle.text.specs.Blanks.{blanks, past_blanks}
use Rattle.text.specs.Numbers.{decimal}
use Rattle.text.specs.Steps.{drop_word, join_word, split_word, turn_word, l_word, variable_lead, field_text, step_text}
use Rattle.text.proofs.ReadBack.{Bytes, Two, two_back, word_back, step_back}
use Rattle.lines.specs.Lines.{newline, lines}
use Rattle.lines.specs.Words.{blank_from}
use Rattle.lines.specs.Gathering.{most_text, has, Says, by_line, through}
use Rattle.lines.specs.Gathering as progress_is
use Rattle.lines.proofs.Gathering.{gathered_whole}
use Rattle.lines.proofs.Printed.{solid, Plain, solid_plain, plain_append, lines_on, content_all, decimal_solid, blanks_word, not_blank}
use Rattle.script_lines.specs.Scripts.{merge_operation, merge_word, line_text, script_text, any_step_in, step_before, line_says, each, read_through, made, at_end, script_of}
use Rattle.script_lines.specs.Inside.{any_step_text}
use Rattle.script_lines.proofs.Printing.{text_short}
use Rattle.text.specs.Reading.{read_to}
use Rattle.script_lines.proofs.Saying.{reads_merge, reads_plain, says_step, merge_read}

-- ---- what a line can hold: a merge, or a step that passes rule 9 over 256 variables, whose places have two bytes each

-- what a merge does not use is zero
abbrev pub merge_fits : StepRecord → Bool
merge_fits r = eqb r.v 0 && (eqb r.literal 0 && eqb r.zero 0)

abbrev pub line_fits : StepRecord → Bool
line_fits r = cond (eqb r.op merge_operation) (merge_fits r) (fits 256 r) && (leb r.i 65535 && leb r.j 65535)

-- ---- the characters of a line

-- a text that begins with a character of a word
record Begun (c : List ℕ) : Type 0 where
  first : ℕ
  rest : List ℕ
  is : c ≡ first ∷ rest
  dark : solid first ≡ true

field_plain : (lead : List ℕ) (x : ℕ) → Plain lead → Plain (field_text lead x)
field_plain lead x p = (refl, plain_append lead (decimal x) p (solid_plain (decimal x) (decimal_solid x)))

two_plain : (lx ly : List ℕ) (x y : ℕ) → Plain lx → Plain ly → Plain (field_text lx x ++ field_text ly y)
two_plain lx ly x y p q = plain_append (field_text lx x) (field_text ly y) (field_plain lx x p) (field_plain ly y q)

lead_plain : Plain variable_lead
lead_plain = (refl, tt)

places_plain : (i j : ℕ) → Plain (field_text [] i ++ field_text [] j)
places_plain i j = two_plain [] [] i j tt tt

step_plain : (s : Step) → Plain (step_text s)
unfolding step_text
step_plain (step_of.drop i j) = plain_append drop_word (field_text [] i ++ field_text [] j) (refl, (refl, (refl, (refl, tt)))) (places_plain i j)
step_plain (step_of.join i j) = plain_append join_word (field_text [] i ++ field_text [] j) (refl, (refl, (refl, (refl, tt)))) (places_plain i j)
step_plain (step_of.split v i) =
    plain_append split_word (field_text variable_lead v ++ field_text [] i) (refl, (refl, (refl, (refl, (refl, tt))))) (two_plain variable_lead [] v i lead_plain tt)
step_plain (step_of.turn v i j) =
    plain_append turn_word (field_text variable_lead v ++ (field_text [] i ++ field_text [] j)) (refl, (refl, (refl, (refl, tt))))
    (plain_append (field_text variable_lead v) (field_text [] i ++ field_text [] j) (field_plain variable_lead v lead_plain) (places_plain i j))
step_plain (step_of.L v b) = plain_append l_word (field_text variable_lead v ++ field_text [] b) (refl, tt) (two_plain variable_lead [] v b lead_plain tt)

step_begun : (s : Step) → Begun (step_text s)
unfolding step_text
step_begun (step_of.drop i j) = record { first = 100; rest = _; is = refl; dark = refl }
step_begun (step_of.join i j) = record { first = 106; rest = _; is = refl; dark = refl }
step_begun (step_of.split v i) = record { first = 115; rest = _; is = refl; dark = refl }
step_begun (step_of.turn v i j) = record { first = 116; rest = _; is = refl; dark = refl }
step_begun (step_of.L v b) = record { first = 76; rest = _; is = refl; dark = refl }

-- no word of a plain script begins as a merge does
no_m : (s : Step) → get_or (step_text s) 0 0 ≡ 109 → ⊥
unfolding step_text
no_m (step_of.drop i j) e = omega arith
no_m (step_of.join i j) e = omega arith
no_m (step_of.split v i) e = omega arith
no_m (step_of.turn v i j) e = omega arith
no_m (step_of.L v b) e = omega arith

-- ---- a line that holds its step

record Backed (r : StepRecord) : Type 0 where
  begun : Begun (any_step_text r)
  plain : Plain (any_step_text r)
  back : any_step_in (any_step_text r) 0 ≡ read_to r (length (any_step_text r))
  bytes : Bytes r

-- a field that is used passes its test, and one that is not is zero: either way it is within its bytes
byte_of : (used test : Bool) (x most : ℕ) → (test ≡ true → x ≤ most) → field used test x ≡ true → x ≤ most
byte_of true test x most h e = h e
byte_of false test x most h e = omega (arith, eqb-true x 0 e)

module _ (r : StepRecord) (wi : r.i ≤ 65535) (wj : r.j ≤ 65535) where
  -- a step of a plain script
  module _ (h : eqb r.op merge_operation ≡ false) (f : fits 256 r ≡ true) where
    plain_text : any_step_text r ≡ step_text (meaning r)
    unfolding any_step_text
    plain_text = rw h

    same : record_of (meaning r) ≡ r
    same = record_meaning 256 r f

    bytes : Bytes r
    bytes =
        let p : Fitting 256 r = fits_parts 256 r f in
        record {
          v_byte = byte_of (uses_v r.op) (ltb r.v 256) r.v 255 (λ e. omega (arith, ltb-true r.v 256 e)) p.v_fits;
          i_word = wi;
          j_word = wj;
          literal_byte = byte_of (uses_literal r.op) (leb r.literal 1) r.literal 255 (λ e. omega (arith, leb-true r.literal 1 e)) p.literal_fits;
        }

    plain_read : any_step_in (step_text (meaning r)) 0 ≡ read_to r (length (step_text (meaning r)))
    plain_read =
        let s : Step = meaning r in
        let end : 0 + length (step_text s) ≡ length (step_text s) = omega arith in
        sym (reads_plain (step_text s) 0 refl (no_m s) refl)
        ∙ step_back s (subst Bytes (sym same) bytes) (step_text s) [] 0 refl (sym (append-nil (step_text s)))
        ∙ ap (λ (x : StepRecord). read_to x (0 + length (step_text s))) same
        ∙ ap (read_to r) end

    plain_backed : Backed r
    plain_backed =
        let e : step_text (meaning r) ≡ any_step_text r = sym plain_text in
        record {
          begun = subst Begun e (step_begun (meaning r));
          plain = subst Plain e (step_plain (meaning r));
          back = subst (λ (c : List ℕ). any_step_in c 0 ≡ read_to r (length c)) e plain_read;
          bytes = bytes;
        }

  -- a merge
  module _ (h : eqb r.op merge_operation ≡ true) (f : merge_fits r ≡ true) where
    abbrev places : List ℕ
    places = field_text [] r.i ++ field_text [] r.j

    merge_text : any_step_text r ≡ merge_word ++ places
    unfolding any_step_text
    merge_text = rw h

    is_merge : record { op = merge_operation; v = 0; i = r.i; j = r.j; literal = 0; zero = 0 } ≡ r
    is_merge =
        let a = both_true (eqb r.v 0) (eqb r.literal 0 && eqb r.zero 0) f in
        let b = both_true (eqb r.literal 0) (eqb r.zero 0) a.1 in
        same_record _ r (sym (eqb-true r.op merge_operation h)) (sym (eqb-true r.v 0 a.0)) refl refl
        (sym (eqb-true r.literal 0 b.0)) (sym (eqb-true r.zero 0 b.1))

    merge_back : any_step_in (merge_word ++ places) 0 ≡ read_to r (length (merge_word ++ places))
    merge_back =
        let c : List ℕ = merge_word ++ places in
        let at : drop 5 c ≡ places ++ [] = sym (append-nil places) in
        let two : Two [] [] 65535 65535 c 5 r.i r.j (length c) =
        two_back [] [] refl refl 65535 65535 r.i r.j wi wj c [] 5 (length c) refl (omega arith) at in
        sym (reads_merge c 0 refl refl (merge_read c 0 refl (word_back merge_operation merge_word c places 0 5 refl refl) refl two.first refl two.second))
        ∙ ap (λ (x : StepRecord). read_to x (length c)) is_merge

    merge_backed : Backed r
    merge_backed =
        let e : merge_word ++ places ≡ any_step_text r = sym merge_text in
        let begun_merge : Begun (merge_word ++ places) = record { first = 109; rest = _; is = refl; dark = refl } in
        let plain_merge : Plain (merge_word ++ places) = plain_append merge_word places (refl, (refl, (refl, (refl, (refl, tt))))) (places_plain r.i r.j) in
        record {
          begun = subst Begun e begun_merge;
          plain = subst Plain e plain_merge;
          back = subst (λ (c : List ℕ). any_step_in c 0 ≡ read_to r (length c)) e merge_back;
          bytes = subst Bytes is_merge (record { v_byte = omega arith; i_word = wi; j_word = wj; literal_byte = omega arith });
        }

backed : (r : StepRecord) → line_fits r ≡ true → Backed r
backed r e =
    let a = both_true (cond (eqb r.op merge_operation) (merge_fits r) (fits 256 r)) (leb r.i 65535 && leb r.j 65535) e in
    let b = both_true (leb r.i 65535) (leb r.j 65535) a.1 in
    go (leb-true r.i 65535 b.0) (leb-true r.j 65535 b.1) (eqb r.op merge_operation) refl a.0
  where
    go : r.i ≤ 65535 → r.j ≤ 65535 → (s : Bool) → eqb r.op merge_operation ≡ s → cond s (merge_fits r) (fits 256 r) ≡ true → Backed r
    go wi wj true h f = merge_backed r wi wj h f
    go wi wj false h f = plain_backed r wi wj h f

-- ---- a line says its step

blank_end : (c : List ℕ) → blank_from c (length c) ≡ true
unfolding blank_from blanks
blank_end c = eq-eqb (past_blanks c (length c)) (length c) (omega (arith, ap blanks (drop-length c)))

no_blanks : (c : List ℕ) → Begun c → 0 ≡ past_blanks c 0
no_blanks c b = omega (arith, ap blanks b.is ∙ blanks_word b.first b.rest b.dark)

begun_not_blank : (c : List ℕ) → Begun c → blank_from c 0 ≡ false
begun_not_blank c b = ap (λ (x : List ℕ). blank_from x 0) b.is ∙ not_blank b.first b.rest b.dark

line_says_lem : (k : ℕ) (r : StepRecord) → Backed r → line_says k tt (any_step_text r) ≡ has tt r
unfolding line_says
line_says_lem k r b =
    let c : List ℕ = any_step_text r in
    ap step_before (content_all c b.plain)
    ∙ sym (says_step c refl (begun_not_blank c b.begun) (no_blanks c b.begun) refl b.back refl (blank_end c))

-- ---- the lines of a script's text

line_lines : (r : StepRecord) (t : List ℕ) → Backed r → lines (line_text r ++ t) ≡ any_step_text r ∷ lines t
unfolding line_text any_step_text
line_lines r t b = ap lines (append_assoc (any_step_text r) (newline ∷ []) t) ∙ lines_on (any_step_text r) t b.plain

all_taken : (room : ℕ) (l acc : List StepRecord) (k : ℕ) → All (λ r. line_fits r ≡ true) l → length acc + length l ≤ room
    → through line_says each 35 room (progress_is.before tt acc k) (lines (script_text l)) ≡ progress_is.before tt (acc ++ l) (k + length l)
unfolding script_text through lines
all_taken room [] acc k f h = let none : k ≡ k + 0 = omega arith in ap₂ (progress_is.before tt) (sym (append-nil acc)) none
all_taken room (r ∷ l) acc k f h =
    let b : Backed r = backed r f.0 in
    let shift : k + 1 + length l ≡ k + suc (length l) = omega arith in
    let more : length (acc ++ (r ∷ [])) + length l ≤ room = omega (arith, length-append acc (r ∷ [])) in
    ap (through line_says each 35 room (progress_is.before tt acc k)) (line_lines r (script_text l) b)
    ∙ ap (λ (s : Says (Unit {0}) StepRecord). through line_says each 35 room (by_line line_says each 35 room acc k tt s) (lines (script_text l))) (line_says_lem k r b)
    ∙ ap (λ (z : Bool). through line_says each 35 room (cond z (progress_is.before tt (acc ++ (r ∷ [])) (k + 1)) (progress_is.refused_by 35 k)) (lines (script_text l))) (lt-ltb (length acc) room (omega arith))
    ∙ all_taken room l (acc ++ (r ∷ [])) (k + 1) f.1 more
    ∙ ap₂ (progress_is.before tt) (append_assoc acc (r ∷ []) l) shift

-- ---- the theorem

pub script_back : (room : ℕ) (l : List StepRecord) → All (λ r. line_fits r ≡ true) l → length l ≤ room → length (script_text l) ≤ most_text
    → script_of room (script_text l) ≡ made l
unfolding script_of read_through
script_back room l f h o = ap at_end (gathered_whole line_says each 35 room 36 tt (script_text l) o ∙ all_taken room l [] 1 f (omega arith))

-- the text of a script that is not too long is not too long either
pub script_short : (l : List StepRecord) → All (λ r. line_fits r ≡ true) l → length l ≤ most_steps → length (script_text l) ≤ most_text
script_short l f h = omega (arith, text_short l (all_each (λ r. line_fits r ≡ true) Bytes (λ r e. (backed r e).bytes) l f))

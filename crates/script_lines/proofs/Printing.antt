-- A script laid line by line, and how long its text is.
-- Assumes nothing.
use mathlib.Core.Path.{◌≡◌, sym, ap, subst, ◌∙◌}
use mathlib.Core.Bool.{Bool, true, false, cond}
use mathlib.Core.List.{List, [], ◌∷◌, ◌++◌, append-nil}
use Prim.Native.Nat.{ℕ, zero, suc, ◌+◌, ◌*◌, ◌/◌, ◌^◌, ◌≤◌, ◌<◌}
use native.Mathlib.Numerals.{add-one}
use native.Mathlib.Omega.{arith}
use lib.Dec.{eqb}
use lib.ListN.{length, get_or, take, length-append}
use lib.Seq.{take-suc, take_all}
use borrow.Author.Tests.{eq-eqb, ne_eqb}
use Rattle.bits.specs.Sums.{All}
use Rattle.bits.proofs.Sums.{all_of}
use Rattle.records.specs.Records.{flat, list_of}
use Rattle.records.proofs.Images.{flat_append}
use Rattle.records.proofs.Records.{length_list, list_at}
use Rattle.records.proofs.Widths.{number_lt}
use Rattle.steps.specs.declared.StepRecord.{StepRecord}
use Rattle.steps.specs.Steps.{meaning, meaning_by}
use Rattle.script.specs.Scripts.{step_records, step_width}
use Rattle.text.specs.Places.{Laid}
use Rattle.text.specs.Numbers.{decimal}
use Rattle.text.specs.Steps.{variable_lead, field_text, step_text}
use Rattle.text.specs.Printing.{field_if}
use Rattle.text.proofs.Laying.{none, after, kept}
use Rattle.text.proofs.Numbers.{decimal_short}
use Rattle.text.proofs.ReadBack.{Bytes}
use Rattle.script_lines.specs.Scripts.{merge_operation, merge_word, line_text, script_text}
use Rattle.script_lines.specs.Inside.{any_step_text}

-- ---- a step, and its line

module _ (x : StepRecord) where
  pub merge_laid : {b b1 b2 b3 : List ℕ} {at p q r : ℕ} → x.op ≡ 6 → Laid b at merge_word p b1 → Laid b1 p (field_if true [] x.i) q b2
      → Laid b2 q (field_if true [] x.j) r b3 → Laid b at (any_step_text x) r b3
  unfolding any_step_text field_if
  merge_laid h w i j = rw (eq-eqb x.op merge_operation h) (after w (after i j))

  pub plain_laid : {b b' : List ℕ} {at p : ℕ} → (x.op ≡ 6 → ⊥) → Laid b at (step_text (meaning x)) p b' → Laid b at (any_step_text x) p b'
  unfolding any_step_text
  plain_laid h l = rw (ne_eqb x.op merge_operation h) l

  pub line_laid : {b b' b'' : List ℕ} {at p q : ℕ} → Laid b at (any_step_text x) p b' → Laid b' p (10 ∷ []) q b'' → Laid b at (line_text x) q b''
  unfolding any_step_text line_text
  line_laid l e = after l e

-- ---- the first k lines

pub record Printed (script b : List ℕ) (p : ℕ) (b' : List ℕ) (k : ℕ) : Type 0 where
  pub front : Laid b 0 (flat line_text (take k (list_of step_records script))) p b'

pub printed_none : (script b : List ℕ) → Printed script b 0 b 0
printed_none script b = record { front = none }

module _ {script b b' : List ℕ} {p k : ℕ} (f : Printed script b p b' k) where
  pub printed_more : {b'' : List ℕ} {q : ℕ} {x : StepRecord} → k < length script / step_width → x ≡ get_or (list_of step_records script) k step_records.none
      → Laid b' p (line_text x) q b'' → Printed script b q b'' (k + 1)
  printed_more {x = x} h e l =
      let s : List StepRecord = list_of step_records script in
      let here : k < length s = omega (arith, length_list step_records script) in
      let lines : flat line_text (take (k + 1) s) ≡ flat line_text (take k s) ++ line_text x =
      ap (λ (m : ℕ). flat line_text (take m s)) (add-one k)
      ∙ ap (flat line_text) (take-suc s k step_records.none here)
      ∙ flat_append line_text (take k s) (get_or s k step_records.none ∷ [])
      ∙ ap (λ (t : List ℕ). flat line_text (take k s) ++ t) (append-nil (line_text (get_or s k step_records.none)) ∙ ap line_text (sym e)) in
      record { front = rw lines (after f.front l) }

  pub printed_end : length script / step_width ≤ k → Laid b 0 (script_text (list_of step_records script)) p b'
  unfolding script_text
  printed_end h =
      let s : List StepRecord = list_of step_records script in
      rw (take_all k s (omega (arith, length_list step_records script))) at f.front

  pub printed_kept : length b' ≡ length b
  printed_kept = kept f.front

-- ---- how long it is

-- a field of a number that has at most suc k digits
field_short : (k : ℕ) (lead : List ℕ) (x : ℕ) → x < 10 ^ suc k → length (field_text lead x) ≤ length lead + k + 2
field_short k lead x h = omega (arith, length-append lead (decimal x), decimal_short k x h)

module _ (r : StepRecord) (b : Bytes r) where
  v_short : length (field_text variable_lead r.v) ≤ 5
  v_short = field_short 2 variable_lead r.v (omega (arith, b.v_byte))

  i_short : length (field_text [] r.i) ≤ 6
  i_short = field_short 4 [] r.i (omega (arith, b.i_word))

  j_short : length (field_text [] r.j) ≤ 6
  j_short = field_short 4 [] r.j (omega (arith, b.j_word))

  literal_short : length (field_text [] r.literal) ≤ 4
  literal_short = field_short 2 [] r.literal (omega (arith, b.literal_byte))

  places_short : length (field_text [] r.i ++ field_text [] r.j) ≤ 12
  places_short = omega (arith, length-append (field_text [] r.i) (field_text [] r.j), i_short, j_short)

  -- of every operation, also of one that there is not; the longest is `turn x255 65535 65535`
  step_short : (op : ℕ) → length (step_text (meaning_by op r)) ≤ 21
  unfolding step_text
  step_short zero = omega (arith, places_short)
  step_short (suc zero) = omega (arith, places_short)
  step_short (suc (suc zero)) = omega (arith, places_short)
  step_short (suc (suc (suc zero))) = omega (arith, length-append (field_text variable_lead r.v) (field_text [] r.i), v_short, i_short)
  step_short (suc (suc (suc (suc zero)))) =
      omega (arith, length-append (field_text variable_lead r.v) (field_text [] r.i ++ field_text [] r.j), v_short, places_short)
  step_short (suc (suc (suc (suc (suc op))))) = omega (arith, length-append (field_text variable_lead r.v) (field_text [] r.literal), v_short, literal_short)

  line_short : length (line_text r) ≤ 22
  unfolding line_text meaning
  line_short = go (eqb r.op merge_operation)
    where
      go : (t : Bool) → length (cond t (merge_word ++ (field_text [] r.i ++ field_text [] r.j)) (step_text (meaning r)) ++ (10 ∷ [])) ≤ 22
      go true = omega (arith, length-append (merge_word ++ (field_text [] r.i ++ field_text [] r.j)) (10 ∷ []), places_short)
      go false = omega (arith, length-append (step_text (meaning r)) (10 ∷ []), step_short r.op)

pub text_short : (l : List StepRecord) → All Bytes l → length (script_text l) ≤ 22 * length l
unfolding script_text
text_short [] f = omega arith
text_short (r ∷ l) f = omega (arith, length-append (line_text r) (script_text l), line_short r f.0, text_short l f.1)

-- the fields of a record that is read from bytes
module _ (b : List ℕ) (small : (i : ℕ) → get_or b i 0 < 256) where
  bytes_at : (i : ℕ) → Bytes (step_records.read b i)
  bytes_at i = record {
    v_byte = omega (arith, number_lt b small 1 (8 * i + 1));
    i_word = omega (arith, number_lt b small 2 (8 * i + 2));
    j_word = omega (arith, number_lt b small 2 (8 * i + 4));
    literal_byte = omega (arith, number_lt b small 1 (8 * i + 6));
  }

  bytes_all : All Bytes (list_of step_records b)
  bytes_all =
      all_of Bytes step_records.none (list_of step_records b)
      (λ i h. subst Bytes (sym (list_at step_records b i step_records.none (omega (arith, length_list step_records b)))) (bytes_at i))

  -- the text of any bytes as a script
  pub script_long : length (script_text (list_of step_records b)) ≤ 22 * length (list_of step_records b)
  script_long = text_short (list_of step_records b) bytes_all

-- What a line says: a merge, a step, nothing, or what is refused; and that a step that was read fits its record.
-- Assumes nothing.
use mathlib.Core.Path.{◌≡◌, refl, sym, ap, ◌∙◌}
use mathlib.Core.Bool.{Bool, true, false, cond, ◌&&◌}
use mathlib.Core.List.{List, [], ◌∷◌}
use Prim.Native.Nat.{ℕ, ◌+◌, ◌%◌, ◌≤◌}
use native.Mathlib.Omega.{arith}
use lib.Dec.{eqb, ltb}
use lib.ListN.{length, get_or, take}
use borrow.Author.Tests.{eq-eqb, ne_eqb}
use Rattle.std.specs.Prelude.{Ok, Err}
use Rattle.lines.specs.Bytes.{index_of}
use Rattle.steps.specs.declared.StepRecord.{StepRecord}
use Rattle.script.specs.Scripts.{place_size, narrow_step, uses_v, uses_i, uses_j, uses_literal}
use Rattle.script.proofs.Scripts.{same_record}
use Rattle.text.specs.Blanks.{past_blanks}
use Rattle.text.specs.Steps.{variable_lead}
use Rattle.text.specs.Reading.{word_in, on_read, field_at, operation_at, fields_at, step_in, Reading, read_to, wrong_at}
use Rattle.text.proofs.Fields.{AtMost, field_most}
use Rattle.lines.specs.Lines.{hash, content}
use Rattle.lines.specs.Words.{blank_from}
use Rattle.lines.specs.Gathering.{Says, knows, has, over, bad}
use Rattle.script_lines.specs.Scripts.{merge_operation, merge_word, merge_in, any_step_in, alone, step_before}

-- ---- a word that was read stands for its number

abbrev Stands : ℕ → Reading ℕ → Type 0
Stands number (Ok a) = a.value ≡ number
Stands number (Err w) = Unit {0}

word_stands : (number : ℕ) (w t : List ℕ) (p : ℕ) → Stands number (word_in number w t p)
unfolding word_in
word_stands number [] t p = refl
word_stands number (x ∷ w) t p = go (ltb p (length t) && eqb (get_or t p 0) x) (word_in number w t (p + 1)) (word_stands number w t (p + 1))
  where
    go : (s : Bool) (r : Reading ℕ) → Stands number r → Stands number (cond s r (wrong_at p))
    go true r h = h
    go false r h = tt

-- ---- a merge: its word, and its two places

module _ (t : List ℕ) (p : ℕ) {f : Reading ℕ} (e : f ≡ word_in merge_operation merge_word t p) {x a : ℕ} (w : f ≡ read_to x a)
    {g : Reading ℕ} (ei : g ≡ field_at true [] 65535 t a) {i b : ℕ} (ri : g ≡ read_to i b) {h : Reading ℕ} (ej : h ≡ field_at true [] 65535 t b) where
  pub merge_read : {j z : ℕ} → h ≡ read_to j z → read_to (record { op = merge_operation; v = 0; i = i; j = j; literal = 0; zero = 0 }) z ≡ merge_in t p
  unfolding merge_in
  merge_read d =
      let six : merge_operation ≡ x = sym (rw (sym e ∙ w) at (word_stands merge_operation merge_word t p)) in
      rw (sym e ∙ w, sym ei ∙ ri, sym ej ∙ d, six)

-- ---- any step, by its first letter

module _ (t : List ℕ) (p : ℕ) {b : ℕ} (e : b ≡ get_or t p 0) {r : Reading StepRecord} where
  pub reads_merge : b ≡ 109 → r ≡ merge_in t p → r ≡ any_step_in t p
  unfolding any_step_in
  reads_merge h d = d ∙ sym (rw (← e, eq-eqb b 109 h))

  pub reads_plain : (b ≡ 109 → ⊥) → r ≡ step_in t p → r ≡ any_step_in t p
  unfolding any_step_in
  reads_plain h d = d ∙ sym (rw (← e, ne_eqb b 109 h))

-- ---- what stands before the comment

module _ (c : List ℕ) {s : Bool} (d : s ≡ blank_from c 0) where
  pub says_nothing : s ≡ true → knows tt ≡ step_before c
  unfolding step_before
  says_nothing h = rw (sym d ∙ h)

  module _ (h : s ≡ false) {p : ℕ} (g : p ≡ past_blanks c 0) {r : Reading StepRecord} (e : r ≡ any_step_in c p) where
    pub says_wrong : {q : ℕ} → r ≡ wrong_at q → bad 34 ≡ step_before c
    unfolding step_before
    says_wrong k = rw (sym d ∙ h, ← g, sym e ∙ k)

    module _ {x : StepRecord} {q : ℕ} (k : r ≡ read_to x q) {u : Bool} (f : u ≡ blank_from c q) where
      pub says_step : u ≡ true → has tt x ≡ step_before c
      unfolding step_before
      says_step l = rw (sym d ∙ h, ← g, sym e ∙ k, sym f ∙ l)

      pub says_more : u ≡ false → bad 34 ≡ step_before c
      unfolding step_before
      says_more l = rw (sym d ∙ h, ← g, sym e ∙ k, sym f ∙ l)

pub content_said : (l : List ℕ) {end : ℕ} → end ≡ index_of hash l → {s : Says (Unit {0}) StepRecord} → s ≡ step_before (take end l) → s ≡ step_before (content l)
unfolding content
content_said l e d = d ∙ ap (λ (k : ℕ). step_before (take k l)) e

-- ---- one line of the script, in the buffer

-- ---- a step that was read has places of at most 65535, so that nothing of it is cut

abbrev Uncut : Reading StepRecord → Type 0
Uncut (Ok a) = narrow_step a.value ≡ a.value
Uncut (Err w) = Unit {0}

record Whole (r : Reading StepRecord) : Type 0 where
  uncut : Uncut r

on_any : (r : Reading ℕ) {k : ℕ → ℕ → Reading StepRecord} → ((x p : ℕ) → Whole (k x p)) → Whole (on_read r k)
on_any (Ok a) f = f a.value a.next
on_any (Err w) f = record { uncut = tt }

on_most : (most : ℕ) (r : Reading ℕ) → AtMost most r → {k : ℕ → ℕ → Reading StepRecord} → ((x p : ℕ) → x ≤ most → Whole (k x p)) → Whole (on_read r k)
on_most most (Ok a) h f = f a.value a.next h
on_most most (Err w) h f = record { uncut = tt }

places_whole : (op v i j literal p : ℕ) → i ≤ 65535 → j ≤ 65535 → Whole (read_to (record { op = op; v = v; i = i; j = j; literal = literal; zero = 0 }) p)
places_whole op v i j literal p f g =
    let ei : i % place_size ≡ i = omega arith in
    let ej : j % place_size ≡ j = omega arith in
    record { uncut = same_record _ _ refl refl ei ej refl refl }

merge_whole : (t : List ℕ) (p : ℕ) → Whole (merge_in t p)
unfolding merge_in
merge_whole t p =
    on_any (word_in merge_operation merge_word t p) (λ op a.
    on_most 65535 (field_at true [] 65535 t a) (field_most true [] 65535 t a) (λ i b f.
    on_most 65535 (field_at true [] 65535 t b) (field_most true [] 65535 t b) (λ j z g.
    places_whole op 0 i j 0 z f g)))

step_whole : (t : List ℕ) (p : ℕ) → Whole (step_in t p)
unfolding step_in fields_at
step_whole t p =
    on_any (operation_at t p) (λ op q.
    on_any (field_at (uses_v op) variable_lead 255 t q) (λ v a.
    on_most 65535 (field_at (uses_i op) [] 65535 t a) (field_most (uses_i op) [] 65535 t a) (λ i b f.
    on_most 65535 (field_at (uses_j op) [] 65535 t b) (field_most (uses_j op) [] 65535 t b) (λ j e g.
    on_any (field_at (uses_literal op) [] 255 t e) (λ literal z.
    places_whole op v i j literal z f g)))))

any_whole : (t : List ℕ) (p : ℕ) → Whole (any_step_in t p)
unfolding any_step_in
any_whole t p = go (eqb (get_or t p 0) 109)
  where
    go : (s : Bool) → Whole (cond s (merge_in t p) (step_in t p))
    go true = merge_whole t p
    go false = step_whole t p

-- a line never says that the text ends
abbrev pub Sayable : Says (Unit {0}) StepRecord → Type 0
Sayable (knows u) = Unit {0}
Sayable (has u r) = narrow_step r ≡ r
Sayable over = ⊥
Sayable (bad number) = Unit {0}

alone_sayable : (c : List ℕ) (r : Reading StepRecord) → Uncut r → Sayable (alone c r)
alone_sayable c (Ok a) h = go (blank_from c a.next)
  where
    go : (s : Bool) → Sayable (cond s (has tt a.value) (bad 34))
    go true = h
    go false = tt
alone_sayable c (Err w) h = tt

pub says_sayable : (c : List ℕ) → Sayable (step_before c)
unfolding step_before
says_sayable c = go (blank_from c 0)
  where
    go : (s : Bool) → Sayable (cond s (knows tt) (alone c (any_step_in c (past_blanks c 0))))
    go true = tt
    go false = alone_sayable c (any_step_in c (past_blanks c 0)) (any_whole c (past_blanks c 0)).uncut

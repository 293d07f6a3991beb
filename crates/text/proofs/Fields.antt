-- Reading a step: its operation, and its fields one after another.
-- Assumes nothing.
use mathlib.Core.Path.{◌≡◌, refl, sym, ap, ◌∙◌, subst}
use mathlib.Core.Bool.{Bool, true, false, cond, not, ◌&&◌}
use mathlib.Core.List.{List, [], ◌∷◌}
use Prim.Native.Nat.{ℕ, zero, suc, ◌+◌, ◌*◌, ◌-◌, ◌≤◌, ◌<◌}
use native.Mathlib.Nat.{lt_of_le_of_lt}
use native.Mathlib.Omega.{arith}
use mir.Syntax.{w8}
use mir.Val.{Fits}
use lib.Dec.{leb, eqb, ltb, lit<}
use lib.ListN.{length, get_or, drop}
use borrow.Author.Tests.{not-true, not-false, eq-eqb, ne_eqb, leb-true}
use Rattle.std.specs.Prelude.{Ok, Err}
use Rattle.script.specs.Scripts.{uses_v, uses_i, uses_j, uses_literal}
use Rattle.steps.specs.declared.StepRecord.{StepRecord}
use Rattle.text.specs.declared.Read.{Read}
use Rattle.text.specs.Blanks.{blank, past_blanks}
use Rattle.text.specs.Numbers.{is_digit}
use Rattle.text.specs.Steps.{drop_word, join_word, split_word, turn_word, l_word, variable_lead}
use Rattle.text.specs.Reading.{word_in, digits_from, number_in, on_read, gap_in, field_at, operation_at, fields_at, step_in, Reading, read_to, wrong_at}

-- ---- what is read is no greater than it may be

-- whatever number is read, it is at most `most`
abbrev pub AtMost : ℕ → Reading ℕ → Type 0
AtMost most (Ok a) = a.value ≤ most
AtMost most (Err w) = Unit {0}

either : (P : Reading ℕ → Type 0) (s : Bool) (x y : Reading ℕ) → (s ≡ true → P x) → P y → P (cond s x y)
either P true x y f g = f refl
either P false x y f g = g

digits_most : (most : ℕ) (t : List ℕ) (p x : ℕ) → x ≤ most → AtMost most (digits_from most t p x)
unfolding digits_from
digits_most most [] p x h = h
digits_most most (b ∷ t) p x h =
    either (AtMost most) (is_digit b) _ (read_to x p)
    (λ d. either (AtMost most) (leb (x * 10 + (b - 48)) most) _ (wrong_at p)
    (λ e. digits_most most t (p + 1) (x * 10 + (b - 48)) (leb-true (x * 10 + (b - 48)) most e)) tt)
    h

number_most : (most : ℕ) (t : List ℕ) (p : ℕ) → AtMost most (number_in most t p)
unfolding number_in
number_most most t p =
    either (AtMost most) (is_digit (get_or t p 0)) _ (wrong_at p) (λ d. digits_most most (drop p t) p 0 (omega arith)) tt

on_read_most : (most : ℕ) (r : Reading ℕ) (k : ℕ → ℕ → Reading ℕ) → ((x p : ℕ) → AtMost most (k x p)) → AtMost most (on_read r k)
on_read_most most (Ok a) k f = f a.value a.next
on_read_most most (Err w) k f = tt

pub field_most : (used : Bool) (lead : List ℕ) (most : ℕ) (t : List ℕ) (p : ℕ) → AtMost most (field_at used lead most t p)
unfolding field_at
field_most true lead most t p =
    on_read_most most (gap_in t p) (λ x q. on_read (word_in 0 lead t q) (λ y z. number_in most t z))
    (λ x q. on_read_most most (word_in 0 lead t q) (λ y z. number_in most t z) (λ y z. number_most most t z))
field_most false lead most t p = omega arith

word_most : (most number : ℕ) → number ≤ most → (w t : List ℕ) (p : ℕ) → AtMost most (word_in number w t p)
unfolding word_in
word_most most number h [] t p = h
word_most most number h (x ∷ w) t p =
    either (AtMost most) (ltb p (length t) && eqb (get_or t p 0) x) _ (wrong_at p) (λ e. word_most most number h w t (p + 1)) tt

operation_most : (t : List ℕ) (p : ℕ) → AtMost 5 (operation_at t p)
unfolding operation_at
operation_most t p =
    either (AtMost 5) (eqb (get_or t p 0) 100) _ _ (λ e. word_most 5 1 (omega arith) drop_word t p)
    (either (AtMost 5) (eqb (get_or t p 0) 106) _ _ (λ e. word_most 5 2 (omega arith) join_word t p)
    (either (AtMost 5) (eqb (get_or t p 0) 115) _ _ (λ e. word_most 5 3 (omega arith) split_word t p)
    (either (AtMost 5) (eqb (get_or t p 0) 116) _ _ (λ e. word_most 5 4 (omega arith) turn_word t p)
    (word_most 5 5 (omega arith) l_word t p))))

-- what is read of a field of one byte, and of the operation, fits a byte
pub field_fits : (used : Bool) (lead t : List ℕ) (p : ℕ) {v : Read ℕ} → Ok v ≡ field_at used lead 255 t p → Fits w8 v.value
field_fits used lead t p {v} e = record { fits = lt_of_le_of_lt (subst (AtMost 255) (sym e) (field_most used lead 255 t p)) (lit< tt) }

pub operation_fits : (t : List ℕ) (p : ℕ) {v : Read ℕ} → Ok v ≡ operation_at t p → Fits w8 v.value
operation_fits t p {v} e = record { fits = lt_of_le_of_lt (subst (AtMost 5) (sym e) (operation_most t p)) (lit< tt) }

-- ---- the operation, by its first letter

module _ (t : List ℕ) (p : ℕ) {b : ℕ} (e : b ≡ get_or t p 0) {r : Reading ℕ} where
  pub reads_drop : b ≡ 100 → r ≡ word_in 1 drop_word t p → r ≡ operation_at t p
  unfolding operation_at
  reads_drop h w = w ∙ sym (simp (sym e, eq-eqb b 100 h))

  module _ (h1 : b ≡ 100 → ⊥) where
    pub reads_join : b ≡ 106 → r ≡ word_in 2 join_word t p → r ≡ operation_at t p
    unfolding operation_at
    reads_join h w = w ∙ sym (simp (sym e, ne_eqb b 100 h1, eq-eqb b 106 h))

    module _ (h2 : b ≡ 106 → ⊥) where
      pub reads_split : b ≡ 115 → r ≡ word_in 3 split_word t p → r ≡ operation_at t p
      unfolding operation_at
      reads_split h w = w ∙ sym (simp (sym e, ne_eqb b 100 h1, ne_eqb b 106 h2, eq-eqb b 115 h))

      module _ (h3 : b ≡ 115 → ⊥) where
        pub reads_turn : b ≡ 116 → r ≡ word_in 4 turn_word t p → r ≡ operation_at t p
        unfolding operation_at
        reads_turn h w = w ∙ sym (simp (sym e, ne_eqb b 100 h1, ne_eqb b 106 h2, ne_eqb b 115 h3, eq-eqb b 116 h))

        pub reads_l : (b ≡ 116 → ⊥) → r ≡ word_in 5 l_word t p → r ≡ operation_at t p
        unfolding operation_at
        reads_l h w = w ∙ sym (simp (sym e, ne_eqb b 100 h1, ne_eqb b 106 h2, ne_eqb b 115 h3, ne_eqb b 116 h))

-- ---- a field

-- the gap before it: no blank, and the place after the blanks
module _ (t : List ℕ) (p : ℕ) {b : ℕ} {s : Bool} (e : b ≡ get_or t p 0) (d : s ≡ blank b) where
  pub no_gap : not s ≡ true → wrong_at p ≡ gap_in t p
  unfolding gap_in
  no_gap h = simp (sym e, sym d ∙ not-true s h)

  pub gap_ends : not s ≡ false → {q : ℕ} → q ≡ past_blanks t p → read_to 0 q ≡ gap_in t p
  unfolding gap_in
  gap_ends h {q} g = ap (read_to 0) g ∙ sym (simp (sym e, sym d ∙ not-false s h))

module _ (lead : List ℕ) (most : ℕ) (t : List ℕ) (p : ℕ) (used : Bool) where
  pub field_unused : not used ≡ true → read_to 0 p ≡ field_at used lead most t p
  unfolding field_at
  field_unused h = rw (not-true used h)

  module _ (h : not used ≡ false) {g : Reading ℕ} (e : g ≡ gap_in t p) where
    pub field_close : {q : ℕ} → g ≡ wrong_at q → wrong_at q ≡ field_at used lead most t p
    unfolding field_at
    field_close d = rw (not-false used h, sym e ∙ d)

    module _ {x q : ℕ} (d : g ≡ read_to x q) {w : Reading ℕ} (l : w ≡ word_in 0 lead t q) where
      pub field_wrong : {z : ℕ} → w ≡ wrong_at z → wrong_at z ≡ field_at used lead most t p
      unfolding field_at
      field_wrong k = rw (not-false used h, sym e ∙ d, sym l ∙ k)

      pub field_number : {y z : ℕ} {r : Reading ℕ} → w ≡ read_to y z → r ≡ number_in most t z → r ≡ field_at used lead most t p
      unfolding field_at
      field_number k n = n ∙ rw (not-false used h, sym e ∙ d, sym l ∙ k)

-- ---- the fields in turn

module _ (op p : ℕ) (t : List ℕ) {f : Reading ℕ} (e : f ≡ field_at (uses_v op) variable_lead 255 t p) where
  pub wrong_v : {q : ℕ} → f ≡ wrong_at q → wrong_at q ≡ fields_at op t p
  unfolding fields_at
  wrong_v d = rw (sym e ∙ d)

  module _ {v a : ℕ} (read_v : f ≡ read_to v a) {g : Reading ℕ} (e2 : g ≡ field_at (uses_i op) [] 65535 t a) where
    pub wrong_i : {q : ℕ} → g ≡ wrong_at q → wrong_at q ≡ fields_at op t p
    unfolding fields_at
    wrong_i d = rw (sym e ∙ read_v, sym e2 ∙ d)

    module _ {i b : ℕ} (read_i : g ≡ read_to i b) {u : Bool} (j_used : u ≡ uses_j op) {h : Reading ℕ} (e3 : h ≡ field_at u [] 65535 t b) where
      third : h ≡ field_at (uses_j op) [] 65535 t b
      third = rw j_used at e3

      pub wrong_j : {q : ℕ} → h ≡ wrong_at q → wrong_at q ≡ fields_at op t p
      unfolding fields_at
      wrong_j d = rw (sym e ∙ read_v, sym e2 ∙ read_i, sym third ∙ d)

      module _ {j y : ℕ} (read_j : h ≡ read_to j y) {k : Reading ℕ} (e4 : k ≡ field_at (uses_literal op) [] 255 t y) where
        pub wrong_literal : {q : ℕ} → k ≡ wrong_at q → wrong_at q ≡ fields_at op t p
        unfolding fields_at
        wrong_literal d = rw (sym e ∙ read_v, sym e2 ∙ read_i, sym third ∙ read_j, sym e4 ∙ d)

        pub fields_read : {x z : ℕ} → k ≡ read_to x z
            → read_to (record { op = op; v = v; i = i; j = j; literal = x; zero = 0 }) z ≡ fields_at op t p
        unfolding fields_at
        fields_read d = rw (sym e ∙ read_v, sym e2 ∙ read_i, sym third ∙ read_j, sym e4 ∙ d)

-- ---- the whole

module _ (t : List ℕ) (p : ℕ) {f : Reading ℕ} (e : f ≡ operation_at t p) where
  pub wrong_word : {q : ℕ} → f ≡ wrong_at q → wrong_at q ≡ step_in t p
  unfolding step_in
  wrong_word d = rw (sym e ∙ d)

  pub step_read : {op q : ℕ} {r : Reading StepRecord} → f ≡ read_to op q → r ≡ fields_at op t q → r ≡ step_in t p
  unfolding step_in
  step_read d g = g ∙ rw (sym e ∙ d)

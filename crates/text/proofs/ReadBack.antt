-- What was printed reads back as what it was: numbers, cubes, and steps whose records pass rule 9.
-- Assumes nothing.
use mathlib.Core.Path.{◌≡◌, refl, sym, ap, ap₂, subst, ◌∙◌}
use mathlib.Core.Bool.{Bool, true, false, cond}
use mathlib.Core.List.{List, [], ◌∷◌, ◌++◌, append_assoc}
use mathlib.Core.Logic.{⊎_elim}
use Prim.Native.Nat.{ℕ, zero, suc, ◌+◌, ◌*◌, ◌-◌, ◌/◌, ◌%◌, ◌≤◌, ◌<◌}
use native.Mathlib.Nat.{add-zero}
use native.Mathlib.Numerals.{add-one}
use native.Mathlib.Omega.{arith}
use lib.Dec.{ltb, leb}
use lib.ListN.{length, get_or, drop, length-append, length-drop, get_or-append}
use lib.Seq.{get_or-drop, drop-drop, get_or_at}
use borrow.Author.Tests.{lt-ltb, le-ltb, le-leb, leb-true, eq-eqb, ne_eqb}
use Rattle.bits.proofs.Bools.{both_true, below_or}
use Rattle.cube.specs.declared.Cube.{Cube}
use Rattle.cube.specs.Cubes.{Good, code, put, one, with_code, mask_bits}
use Rattle.cube.proofs.Codes.{code_lt, code_same, code_other, with_put, one_good, put_good, cube_ext}
use Rattle.steps.specs.declared.StepRecord.{StepRecord}
use Rattle.steps.specs.Steps.{Step, meaning}
use Rattle.steps.specs.Steps as step_of
use Rattle.script.specs.Scripts.{fits, record_of}
use Rattle.script.proofs.Scripts.{record_meaning}
use Rattle.text.specs.Places.{Laid}
use Rattle.text.specs.Blanks.{blank, blanks, past_blanks}
use Rattle.text.specs.Numbers.{is_digit, decimal_by, decimal}
use Rattle.text.specs.Cubes.{glyph, code_of_glyph, cube_text}
use Rattle.text.specs.Steps.{drop_word, join_word, split_word, turn_word, l_word, variable_lead, field_text, step_text}
use Rattle.text.specs.Reading.{word_in, digits_from, number_in, codes_from, cube_in, gap_in, field_at, operation_at, step_in, read_to, wrong_at}
use Rattle.text.proofs.Laying.{Stands, stands, length_cube}
use Rattle.text.proofs.Fields.{reads_drop, reads_join, reads_split, reads_turn, reads_l, gap_ends, field_unused, field_number, fields_read, step_read}

first_of : (t : List ℕ) (p : ℕ) → get_or t p 0 ≡ get_or (drop p t) 0 0
first_of t p = ap (λ (m : ℕ). get_or t m 0) (sym (add-zero p)) ∙ sym (get_or-drop p t 0 0)

-- ---- a character of a text that goes on

record Char (t : List ℕ) (p x : ℕ) (s : List ℕ) : Type 0 where
  here : p < length t
  is : get_or t p 0 ≡ x
  rest : drop (p + 1) t ≡ s

char : (t : List ℕ) (p x : ℕ) (s : List ℕ) → drop p t ≡ x ∷ s → Char t p x s
char t p x s e = record {
  here = omega (arith, sym (length-drop p t) ∙ ap length e);
  is = first_of t p ∙ ap (λ (l : List ℕ). get_or l 0 0) e;
  rest = sym (drop-drop 1 p t) ∙ ap (drop 1) e;
}

-- ---- words

pub word_back : (number : ℕ) (w t rest : List ℕ) (p q : ℕ) → q ≡ p + length w → drop p t ≡ w ++ rest → word_in number w t p ≡ read_to number q
unfolding word_in
word_back number [] t rest p q l e = let same : p ≡ q = omega arith in ap (read_to number) same
word_back number (x ∷ w) t rest p q l e =
    let c : Char t p x (w ++ rest) = char t p x (w ++ rest) e in
    let on : word_in number w t (p + 1) ≡ read_to number q = word_back number w t rest (p + 1) q (omega arith) c.rest in
    simp (lt-ltb p (length t) c.here, eq-eqb (get_or t p 0) x c.is) on

-- what stands after a text
pub after_text : (w t rest : List ℕ) (p q : ℕ) → q ≡ p + length w → drop p t ≡ w ++ rest → drop q t ≡ rest
after_text [] t rest p q l e = let same : q ≡ p = omega arith in ap (λ (m : ℕ). drop m t) same ∙ e
after_text (x ∷ w) t rest p q l e = after_text w t rest (p + 1) q (omega arith) (char t p x (w ++ rest) e).rest

-- ---- numbers

-- one digit more
digit_on : (most y d : ℕ) (rest : List ℕ) (p : ℕ) → d < 10 → y * 10 + d ≤ most
    → digits_from most ((48 + d) ∷ rest) p y ≡ digits_from most rest (p + 1) (y * 10 + d)
unfolding digits_from
digit_on most y d rest p h k =
    let value : 48 + d - 48 ≡ d = omega arith in
    simp (le-leb 48 (48 + d) (omega arith), le-leb (48 + d) 57 (omega arith), value, le-leb (y * 10 + d) most k)

-- the digits before the last one, and the last one
digits_on : (most x : ℕ) (a rest : List ℕ) (p : ℕ) → 10 ≤ x → x ≤ most
    → digits_from most (a ++ ((48 + x % 10) ∷ rest)) p 0 ≡ digits_from most ((48 + x % 10) ∷ rest) (p + length a) (x / 10)
    → digits_from most ((a ++ ((48 + x % 10) ∷ [])) ++ rest) p 0 ≡ digits_from most rest (p + length (a ++ ((48 + x % 10) ∷ []))) x
digits_on most x a rest p l k before =
    let value : x / 10 * 10 + x % 10 ≡ x = omega arith in
    let long : p + length a + 1 ≡ p + length (a ++ ((48 + x % 10) ∷ [])) = omega (arith, length-append a ((48 + x % 10) ∷ [])) in
    ap (λ (s : List ℕ). digits_from most s p 0) (append_assoc a ((48 + x % 10) ∷ []) rest)
    ∙ before
    ∙ digit_on most (x / 10) (x % 10) rest (p + length a) (omega arith) (omega arith)
    ∙ ap₂ (digits_from most rest) long value

-- the digits of x are read as x
digits_back : (most turns x : ℕ) → x ≤ turns → x ≤ most → (rest : List ℕ) (p : ℕ)
    → digits_from most (decimal_by turns x ++ rest) p 0 ≡ digits_from most rest (p + length (decimal_by turns x)) x
unfolding decimal_by
digits_back most zero x h k rest p =
    let none : x ≡ 0 = omega arith in
    rw none (digit_on most 0 0 rest p (omega arith) (omega arith))
digits_back most (suc turns) x h k rest p =
    ⊎_elim
    (λ l.
    let same : 0 * 10 + x ≡ x = omega arith in
    let now : digits_from most ((48 + x) ∷ rest) p 0 ≡ digits_from most rest (p + 1) x =
    digit_on most 0 x rest p l (omega arith) ∙ ap (digits_from most rest (p + 1)) same in
    rw (lt-ltb x 10 l) now)
    (λ l. rw (le-ltb x 10 l) (digits_on most x (decimal_by turns (x / 10)) rest p l k
    (digits_back most turns (x / 10) (omega arith) (omega arith) ((48 + x % 10) ∷ rest) p)))
    (below_or x 10)

-- the first of them is a digit
digit_true : (d : ℕ) → d < 10 → is_digit (48 + d) ≡ true
digit_true d h = simp (le-leb 48 (48 + d) (omega arith), le-leb (48 + d) 57 (omega arith))

first_digit : (turns x : ℕ) → x ≤ turns → (rest : List ℕ) → is_digit (get_or (decimal_by turns x ++ rest) 0 0) ≡ true
unfolding decimal_by
first_digit zero x h rest = digit_true (x % 10) (omega arith)
first_digit (suc turns) x h rest =
    ⊎_elim
    (λ l. rw (lt-ltb x 10 l) (digit_true x l))
    (λ l. rw (le-ltb x 10 l)
    (ap (λ (s : List ℕ). is_digit (get_or s 0 0)) (append_assoc (decimal_by turns (x / 10)) ((48 + x % 10) ∷ []) rest)
    ∙ first_digit turns (x / 10) (omega arith) ((48 + x % 10) ∷ rest)))
    (below_or x 10)

number_ends : (most : ℕ) (rest : List ℕ) (q x : ℕ) → is_digit (get_or rest 0 0) ≡ false → digits_from most rest q x ≡ read_to x q
unfolding digits_from
number_ends most [] q x h = refl
number_ends most (b ∷ rest) q x h = simp h

-- a number reads back, where no digit follows it
module _ (most x : ℕ) (few : x ≤ most) (t rest : List ℕ) (p : ℕ) (none : is_digit (get_or rest 0 0) ≡ false) where
  pub number_back : drop p t ≡ decimal x ++ rest → number_in most t p ≡ read_to x (p + length (decimal x))
  unfolding number_in
  number_back e =
      let first : is_digit (get_or t p 0) ≡ true = ap is_digit (first_of t p ∙ ap (λ (l : List ℕ). get_or l 0 0) e) ∙ first_digit x x (omega arith) rest in
      simp first
      (ap (λ (l : List ℕ). digits_from most l p 0) e
      ∙ digits_back most x x (omega arith) few rest p
      ∙ number_ends most rest (p + length (decimal x)) x none)

-- ---- fields

-- what a lead and a number begin with is no blank, where the lead begins with none
digit_no_blank : (b : ℕ) → is_digit b ≡ true → blank b ≡ false
digit_no_blank b h =
    let low : 48 ≤ b = leb-true 48 b (both_true (leb 48 b) (leb b 57) h).0 in
    simp (ne_eqb b 32 (λ e. omega arith), ne_eqb b 9 (λ e. omega arith), ne_eqb b 13 (λ e. omega arith))

lead_no_blank : (lead : List ℕ) → blank (get_or lead 0 0) ≡ false → (x : ℕ) (rest : List ℕ) → blank (get_or (lead ++ (decimal x ++ rest)) 0 0) ≡ false
lead_no_blank [] plain x rest = digit_no_blank (get_or (decimal x ++ rest) 0 0) (first_digit x x (omega arith) rest)
lead_no_blank (b ∷ lead) plain x rest = plain

blanks_none : (s : List ℕ) → blank (get_or s 0 0) ≡ false → blanks s ≡ 0
unfolding blanks
blanks_none [] h = refl
blanks_none (b ∷ s) h = simp h

-- one space is a gap
gap_back : (t s : List ℕ) (p : ℕ) → blank (get_or s 0 0) ≡ false → drop p t ≡ 32 ∷ s → gap_in t p ≡ read_to 0 (p + 1)
unfolding blanks
gap_back t s p none e =
    let one_more : blanks (drop p t) ≡ suc (blanks s) = rw e in
    let end : p + 1 ≡ past_blanks t p = omega (arith, one_more, blanks_none s none) in
    sym (gap_ends t p (sym (char t p 32 s e).is) refl refl end)

-- a field as it is printed: a space, a lead and a number
module _ (lead : List ℕ) (plain : blank (get_or lead 0 0) ≡ false) where
  pub field_back : (most x : ℕ) → x ≤ most → (t rest : List ℕ) (p q : ℕ) → is_digit (get_or rest 0 0) ≡ false → q ≡ p + length (field_text lead x)
      → drop p t ≡ field_text lead x ++ rest → field_at true lead most t p ≡ read_to x q
  field_back most x few t rest p q none l e =
      let d : drop p t ≡ 32 ∷ (lead ++ (decimal x ++ rest)) = e ∙ ap (λ (s : List ℕ). 32 ∷ s) (append_assoc lead (decimal x) rest) in
      let at : drop (p + 1) t ≡ lead ++ (decimal x ++ rest) = (char t p 32 (lead ++ (decimal x ++ rest)) d).rest in
      let z : ℕ = p + 1 + length lead in
      let then : drop z t ≡ decimal x ++ rest = after_text lead t (decimal x ++ rest) (p + 1) z refl at in
      let long : z + length (decimal x) ≡ q = omega (arith, length-append lead (decimal x)) in
      sym (field_number lead most t p true refl refl (gap_back t (lead ++ (decimal x ++ rest)) p (lead_no_blank lead plain x rest) d)
      refl (word_back 0 lead t (decimal x ++ rest) (p + 1) z refl at)
      (sym (number_back most x few t rest z none then ∙ ap (read_to x) long)))

-- two fields
pub record Two (lx ly : List ℕ) (mx my : ℕ) (t : List ℕ) (p x y q : ℕ) : Type 0 where
  pub between : ℕ
  pub first : field_at true lx mx t p ≡ read_to x between
  pub second : field_at true ly my t between ≡ read_to y q

module _ (lx ly : List ℕ) (px : blank (get_or lx 0 0) ≡ false) (py : blank (get_or ly 0 0) ≡ false) where
  pub two_back : (mx my x y : ℕ) → x ≤ mx → y ≤ my → (t rest : List ℕ) (p q : ℕ) → is_digit (get_or rest 0 0) ≡ false
      → q ≡ p + length (field_text lx x ++ field_text ly y) → drop p t ≡ (field_text lx x ++ field_text ly y) ++ rest → Two lx ly mx my t p x y q
  two_back mx my x y fx fy t rest p q none l e =
      let d : drop p t ≡ field_text lx x ++ (field_text ly y ++ rest) = e ∙ append_assoc (field_text lx x) (field_text ly y) rest in
      let long : q ≡ p + length (field_text lx x) + length (field_text ly y) = omega (arith, length-append (field_text lx x) (field_text ly y)) in
      record {
        between = p + length (field_text lx x);
        first = field_back lx px mx x fx t (field_text ly y ++ rest) p (p + length (field_text lx x)) refl refl d;
        second =
            field_back ly py my y fy t rest (p + length (field_text lx x)) q none long
            (after_text (field_text lx x) t (field_text ly y ++ rest) p (p + length (field_text lx x)) refl d);
      }

-- ---- cubes

-- the codes of the variables below k
up_to : ℕ → Cube → Cube
up_to zero c = one
up_to (suc k) c = put (up_to k c) k (code c k)

up_good : (n k : ℕ) (c : Cube) → k ≤ n → Good n (up_to k c)
unfolding up_to
up_good n zero c h = one_good n
up_good n (suc k) c h = put_good n (up_to k c) k (code c k) (up_good n k c (omega arith)) (omega arith) (code_lt c k)

up_code : (k : ℕ) (c : Cube) (i : ℕ) → i < k → code (up_to k c) i ≡ code c i
unfolding up_to
up_code zero c i h = absurd (omega arith)
up_code (suc k) c i h =
    ⊎_elim
    (λ l. code_other (up_to k c) k (code c k) i (λ e. omega arith) ∙ up_code k c i l)
    (λ l. let e : i ≡ k = omega arith in rw e (code_same (up_to k c) k (code c k) (code_lt c k)))
    (below_or i k)

up_all : (n : ℕ) (c : Cube) → Good n c → up_to n c ≡ c
up_all n c g = cube_ext n (up_to n c) c (up_good n n c (omega arith)) g (λ k h. up_code n c k h)

glyph_code : (x : ℕ) → x < 3 → code_of_glyph (glyph x) ≡ x
glyph_code zero h = refl
glyph_code (suc zero) h = refl
glyph_code (suc (suc zero)) h = refl
glyph_code (suc (suc (suc x))) h = absurd (omega arith)

codes_back : (c : Cube) (left k p : ℕ) (t : List ℕ) → k + left ≤ mask_bits → ((i : ℕ) → i < left → get_or t (p + i) 0 ≡ glyph (code c (k + i)))
    → codes_from t left k p (up_to k c) ≡ read_to (up_to (k + left) c) (p + left)
unfolding codes_from up_to
codes_back c zero k p t h f = ap₂ (λ (m r : ℕ). read_to (up_to m c) r) (sym (add-zero k)) (sym (add-zero p))
codes_back c (suc left) k p t h f =
    let here : get_or t p 0 ≡ glyph (code c k) = ap (λ (m : ℕ). get_or t m 0) (sym (add-zero p)) ∙ f 0 (omega arith) ∙ ap (λ (m : ℕ). glyph (code c m)) (add-zero k) in
    let is : code_of_glyph (get_or t p 0) ≡ code c k = ap code_of_glyph here ∙ glyph_code (code c k) (code_lt c k) in
    let next : with_code (up_to k c) k (code c k) ≡ up_to (k + 1) c = with_put (up_to k c) k (code c k) (omega arith) ∙ sym (ap (λ (m : ℕ). up_to m c) (add-one k)) in
    let shift : (m i : ℕ) → m + 1 + i ≡ m + suc i = λ m i. omega arith in
    ap (λ (b : ℕ). cond (ltb b 3) (codes_from t left (k + 1) (p + 1) (with_code (up_to k c) k b)) (wrong_at p)) is
    ∙ simp (lt-ltb (code c k) 3 (code_lt c k))
    (ap (codes_from t left (k + 1) (p + 1)) next
    ∙ codes_back c left (k + 1) (p + 1) t (omega arith)
    (λ i l. ap (λ (m : ℕ). get_or t m 0) (shift p i) ∙ f (suc i) (omega arith) ∙ ap (λ (m : ℕ). glyph (code c m)) (sym (shift k i)))
    ∙ ap₂ (λ (m r : ℕ). read_to (up_to m c) r) (shift k left) (shift p left))

glyph_at : (n : ℕ) (c : Cube) (i : ℕ) → i < n → get_or (cube_text n c) i 0 ≡ glyph (code c i)
unfolding cube_text
glyph_at zero c i h = absurd (omega arith)
glyph_at (suc n) c i h =
    ⊎_elim
    (λ l. get_or-append (cube_text n c) (glyph (code c n) ∷ []) 0 i (omega (arith, length_cube n c)) ∙ glyph_at n c i l)
    (λ l. let e : i ≡ n = omega arith in rw e (get_or_at (cube_text n c) (glyph (code c n)) [] 0 n (length_cube n c)))
    (below_or i n)

pub cube_back : (n : ℕ) (c : Cube) → n ≤ mask_bits → Good n c → (t rest : List ℕ) (p : ℕ) → drop p t ≡ cube_text n c ++ rest → cube_in n t p ≡ read_to c (p + n)
unfolding up_to
cube_back n c few g t rest p e =
    let none : 0 + n ≡ n = omega arith in
    let zero_first : (i : ℕ) → i ≡ 0 + i = λ i. omega arith in
    codes_back c n 0 p t (omega arith)
    (λ i l.
    sym (get_or-drop p t i 0) ∙ ap (λ (s : List ℕ). get_or s i 0) e ∙ get_or-append (cube_text n c) rest 0 i (omega (arith, length_cube n c))
    ∙ glyph_at n c i l ∙ ap (λ (m : ℕ). glyph (code c m)) (zero_first i))
    ∙ ap (λ (d : Cube). read_to d (p + n)) (ap (λ (m : ℕ). up_to m c) none ∙ up_all n c g)

-- ---- steps

-- what the bytes of a record can hold
pub record Bytes (r : StepRecord) : Type 0 where
  pub v_byte : r.v ≤ 255
  pub i_word : r.i ≤ 65535
  pub j_word : r.j ≤ 65535
  pub literal_byte : r.literal ≤ 255

unused : (lead : List ℕ) (most : ℕ) (t : List ℕ) (p : ℕ) → field_at false lead most t p ≡ read_to 0 p
unused lead most t p = sym (field_unused lead most t p false refl)

-- the word of an operation, read by its first letter
module _ (t rest : List ℕ) (p : ℕ) where
  letter : (x : ℕ) (s : List ℕ) → drop p t ≡ x ∷ s → x ≡ get_or t p 0
  letter x s e = sym (char t p x s e).is

  word_drop : drop p t ≡ drop_word ++ rest → operation_at t p ≡ read_to 1 (p + 4)
  word_drop e = sym (reads_drop t p (letter 100 _ e) refl (sym (word_back 1 drop_word t rest p (p + 4) refl e)))

  word_join : drop p t ≡ join_word ++ rest → operation_at t p ≡ read_to 2 (p + 4)
  word_join e = sym (reads_join t p (letter 106 _ e) (λ z. omega arith) refl (sym (word_back 2 join_word t rest p (p + 4) refl e)))

  word_split : drop p t ≡ split_word ++ rest → operation_at t p ≡ read_to 3 (p + 5)
  word_split e = sym (reads_split t p (letter 115 _ e) (λ z. omega arith) (λ z. omega arith) refl (sym (word_back 3 split_word t rest p (p + 5) refl e)))

  word_turn : drop p t ≡ turn_word ++ rest → operation_at t p ≡ read_to 4 (p + 4)
  word_turn e =
      sym (reads_turn t p (letter 116 _ e) (λ z. omega arith) (λ z. omega arith) (λ z. omega arith) refl (sym (word_back 4 turn_word t rest p (p + 4) refl e)))

  word_l : drop p t ≡ l_word ++ rest → operation_at t p ≡ read_to 5 (p + 1)
  word_l e =
      sym (reads_l t p (letter 76 _ e) (λ z. omega arith) (λ z. omega arith) (λ z. omega arith) (λ z. omega arith) (sym (word_back 5 l_word t rest p (p + 1) refl e)))

-- a step that its record can hold reads back as its record, where no digit follows it
pub step_back : (s : Step) → Bytes (record_of s) → (t rest : List ℕ) (p : ℕ) → is_digit (get_or rest 0 0) ≡ false → drop p t ≡ step_text s ++ rest
    → step_in t p ≡ read_to (record_of s) (p + length (step_text s))
unfolding record_of step_text
step_back (step_of.drop i j) b t rest p none e =
    let at : drop (p + 4) t ≡ (field_text [] i ++ field_text [] j) ++ rest = after_text drop_word t ((field_text [] i ++ field_text [] j) ++ rest) p (p + 4) refl e in
    let long : p + length (drop_word ++ (field_text [] i ++ field_text [] j)) ≡ p + 4 + length (field_text [] i ++ field_text [] j) = omega arith in
    let two : Two [] [] 65535 65535 t (p + 4) i j _ = two_back [] [] refl refl 65535 65535 i j b.i_word b.j_word t rest (p + 4) _ none long at in
    sym (step_read t p refl (word_drop t ((field_text [] i ++ field_text [] j) ++ rest) p e)
    (fields_read 1 (p + 4) t refl (unused variable_lead 255 t (p + 4)) refl two.first refl refl two.second refl (unused [] 255 t _)))
step_back (step_of.join i j) b t rest p none e =
    let at : drop (p + 4) t ≡ (field_text [] i ++ field_text [] j) ++ rest = after_text join_word t ((field_text [] i ++ field_text [] j) ++ rest) p (p + 4) refl e in
    let long : p + length (join_word ++ (field_text [] i ++ field_text [] j)) ≡ p + 4 + length (field_text [] i ++ field_text [] j) = omega arith in
    let two : Two [] [] 65535 65535 t (p + 4) i j _ = two_back [] [] refl refl 65535 65535 i j b.i_word b.j_word t rest (p + 4) _ none long at in
    sym (step_read t p refl (word_join t ((field_text [] i ++ field_text [] j) ++ rest) p e)
    (fields_read 2 (p + 4) t refl (unused variable_lead 255 t (p + 4)) refl two.first refl refl two.second refl (unused [] 255 t _)))
step_back (step_of.split v i) b t rest p none e =
    let at : drop (p + 5) t ≡ (field_text variable_lead v ++ field_text [] i) ++ rest = after_text split_word t ((field_text variable_lead v ++ field_text [] i) ++ rest) p (p + 5) refl e in
    let long : p + length (split_word ++ (field_text variable_lead v ++ field_text [] i)) ≡ p + 5 + length (field_text variable_lead v ++ field_text [] i) = omega arith in
    let two : Two variable_lead [] 255 65535 t (p + 5) v i _ = two_back variable_lead [] refl refl 255 65535 v i b.v_byte b.i_word t rest (p + 5) _ none long at in
    sym (step_read t p refl (word_split t ((field_text variable_lead v ++ field_text [] i) ++ rest) p e)
    (fields_read 3 (p + 5) t refl two.first refl two.second refl refl (unused [] 65535 t _) refl (unused [] 255 t _)))
step_back (step_of.turn v i j) b t rest p none e =
    let tail : List ℕ = (field_text [] i ++ field_text [] j) ++ rest in
    let whole : drop p t ≡ turn_word ++ (field_text variable_lead v ++ tail) = e ∙ ap (λ (s : List ℕ). turn_word ++ s) (append_assoc (field_text variable_lead v) (field_text [] i ++ field_text [] j) rest) in
    let at : drop (p + 4) t ≡ field_text variable_lead v ++ tail = after_text turn_word t (field_text variable_lead v ++ tail) p (p + 4) refl whole in
    let q : ℕ = p + 4 + length (field_text variable_lead v) in
    let then : drop q t ≡ tail = after_text (field_text variable_lead v) t tail (p + 4) q refl at in
    let long : p + length (turn_word ++ (field_text variable_lead v ++ (field_text [] i ++ field_text [] j))) ≡ q + length (field_text [] i ++ field_text [] j) =
    omega (arith, length-append (field_text variable_lead v) (field_text [] i ++ field_text [] j)) in
    let two : Two [] [] 65535 65535 t q i j _ = two_back [] [] refl refl 65535 65535 i j b.i_word b.j_word t rest q _ none long then in
    sym (step_read t p refl (word_turn t (field_text variable_lead v ++ tail) p whole)
    (fields_read 4 (p + 4) t refl (field_back variable_lead refl 255 v b.v_byte t tail (p + 4) q refl refl at) refl {b = two.between} two.first refl refl two.second refl (unused [] 255 t _)))
step_back (step_of.L v x) b t rest p none e =
    let at : drop (p + 1) t ≡ (field_text variable_lead v ++ field_text [] x) ++ rest = after_text l_word t ((field_text variable_lead v ++ field_text [] x) ++ rest) p (p + 1) refl e in
    let long : p + length (l_word ++ (field_text variable_lead v ++ field_text [] x)) ≡ p + 1 + length (field_text variable_lead v ++ field_text [] x) = omega arith in
    let two : Two variable_lead [] 255 255 t (p + 1) v x _ = two_back variable_lead [] refl refl 255 255 v x b.v_byte b.literal_byte t rest (p + 1) _ none long at in
    sym (step_read t p refl (word_l t ((field_text variable_lead v ++ field_text [] x) ++ rest) p e)
    (fields_read 5 (p + 1) t refl two.first refl (unused [] 65535 t _) refl refl (unused [] 65535 t _) refl two.second))

-- ---- what a printer left in a buffer with room reads back from there

module _ {b b' : List ℕ} {at next : ℕ} where
  pub cube_reads_back : (n : ℕ) (c : Cube) → n ≤ mask_bits → Good n c → Laid b at (cube_text n c) next b' → at + n ≤ length b → cube_in n b' at ≡ read_to c next
  cube_reads_back n c few g f room =
      let long : length (cube_text n c) ≡ n = length_cube n c in
      let st : Stands b at (cube_text n c) next b' = stands f (omega arith) in
      let end : at + n ≡ next = omega (arith, st.ends_at) in
      cube_back n c few g b' (drop (at + length (cube_text n c)) b) at st.from ∙ ap (read_to c) end

  pub step_reads_back : (n : ℕ) (r : StepRecord) → fits n r ≡ true → Bytes r → Laid b at (step_text (meaning r)) next b'
      → at + length (step_text (meaning r)) ≤ length b → is_digit (get_or (drop (at + length (step_text (meaning r))) b) 0 0) ≡ false
      → step_in b' at ≡ read_to r next
  step_reads_back n r fit bytes f room none =
      let st : Stands b at (step_text (meaning r)) next b' = stands f room in
      let same : record_of (meaning r) ≡ r = record_meaning n r fit in
      step_back (meaning r) (subst Bytes (sym same) bytes) b' (drop (at + length (step_text (meaning r))) b) at none st.from
      ∙ ap₂ read_to same (sym st.ends_at)

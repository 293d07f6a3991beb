-- A map that was printed reads back as what it was: each line says what it was printed for.
-- Assumes nothing.
use mathlib.Core.Path.{◌≡◌, refl, sym, ap, ap₂, subst, ◌∙◌}
use mathlib.Core.Bool.{Bool, true, false, cond, not}
use mathlib.Core.Logic.{⊎_elim}
use mathlib.Core.List.{List, [], ◌∷◌, ◌++◌, append-nil, append_assoc}
use Prim.Native.Nat.{ℕ, zero, suc, ◌+◌, ◌-◌, ◌*◌, ◌^◌, ◌≤◌, ◌<◌}
use native.Mathlib.Nat.{add-zero, zero-add}
use native.Mathlib.Numerals.{add-one}
use native.Mathlib.Omega.{arith}
use lib.Dec.{eqb}
use lib.ListN.{length, get_or, length-append}
use borrow.Author.Tests.{lt-ltb, le-ltb, le-leb, eq-eqb, ne_eqb}
use Rattle.std.specs.Prelude.{Some}
use Rattle.bits.specs.Bits.{bit}
use Rattle.bits.specs.Below.{sum_below}
use Rattle.bits.specs.Sums.{All}
use Rattle.bits.proofs.Bits.{bit_lt, bit_ext_below}
use Rattle.bits.proofs.Bools.{below_or}
use Rattle.bits.proofs.Sums.{all_append, all_get_or}
use Rattle.bits.proofs.Weights.{weighted_lt, weighted_bit}
use Rattle.cube.specs.declared.Cube.{Cube}
use Rattle.cube.specs.Cubes.{Good, code, one, with_code, put, mask_bits}
use Rattle.cube.specs.Lists.{most_variables, most_records}
use Rattle.cube.proofs.Codes.{code_lt, code_same, code_other, with_put, one_good, put_good, cube_ext}
use Rattle.records.specs.Records.{flat}
use Rattle.shared.specs.declared.Shared.{Shared}
use Rattle.shared.specs.SharedRecord.{sharing, Fine}
use Rattle.shared.specs.Outputs.{output_count}
use Rattle.text.specs.Blanks.{blank, blanks}
use Rattle.text.specs.Numbers.{decimal}
use Rattle.text.specs.Cubes.{glyph, code_of_glyph, cube_text}
use Rattle.lines.specs.Lines.{lines}
use Rattle.lines.specs.Words.{letters, blank_from, first_word, after_word, only_word}
use Rattle.lines.specs.Gathering.{Says, knows, has, over, Progress, through, gathered, most_text}
use Rattle.lines.specs.Gathering as progress_is
use Rattle.lines.proofs.Printed.{solid, Plain, Solid, solid_plain, plain_append, solid_append, lines_on, content_all, no_letters, no_letters_space, blanks_word, not_blank, first_word_lem, after_word_lem, decimal_solid, number_alone}
use Rattle.pla.specs.declared.Header.{Header}
use Rattle.pla.specs.Names.{dot, i_name, o_name, type_name, p_name, e_name, esop_word, name_of}
use Rattle.pla.specs.Header.{unsaid, nothing_said, named, inputs_said, outputs_said, products_said, most_stated}
use Rattle.pla.specs.Products.{output_of, spelt, product_said, lacking, product}
use Rattle.pla.specs.Pla.{says_before, line_says, in_some, read_through, made, finished, at_end, pla_of}
use Rattle.pla_print.specs.Printing.{name_line, head_text, outputs_text, product_text, pla_text}
use Rattle.pla_print.proofs.Printing.{text_long}

-- ---- the characters of a product

-- the character of a code: it stands in a word, it is no dot, and it is read as the code
record Glyph (x : ℕ) : Type 0 where
  inside : solid (glyph x) ≡ true
  undotted : eqb (glyph x) dot ≡ false
  unblank : blank (glyph x) ≡ false
  coded : code_of_glyph (glyph x) ≡ x

glyphs : (x : ℕ) → x < 3 → Glyph x
glyphs zero h = record { inside = refl; undotted = refl; unblank = refl; coded = refl }
glyphs (suc zero) h = record { inside = refl; undotted = refl; unblank = refl; coded = refl }
glyphs (suc (suc zero)) h = record { inside = refl; undotted = refl; unblank = refl; coded = refl }
glyphs (suc (suc (suc x))) h = absurd (omega arith)

-- the same of the character of a bit
abbrev mark_of : ℕ → ℕ
mark_of x = cond (eqb x 1) 49 48

record Mark (x : ℕ) : Type 0 where
  inside : solid (mark_of x) ≡ true
  undotted : eqb (mark_of x) dot ≡ false
  unblank : blank (mark_of x) ≡ false
  marked : output_of (mark_of x) ≡ x

marks : (x : ℕ) → x < 2 → Mark x
marks zero h = record { inside = refl; undotted = refl; unblank = refl; marked = refl }
marks (suc zero) h = record { inside = refl; undotted = refl; unblank = refl; marked = refl }
marks (suc (suc x)) h = absurd (omega arith)

-- ---- what a product's line spells

module _ (n m : ℕ) (few : n ≤ mask_bits) where
  -- the cube a has the codes of c below k
  record Upto (k : ℕ) (c a : Cube) : Type 0 where
    good : Good n a
    codes : (i : ℕ) → i < k → code a i ≡ code c i

  upto_more : (k : ℕ) (c a : Cube) → k < n → Upto k c a → Upto (suc k) c (with_code a k (code c k))
  upto_more k c a h u =
      let e : put a k (code c k) ≡ with_code a k (code c k) = sym (with_put a k (code c k) (omega arith)) in
      subst (Upto (suc k) c) e (record {
        good = put_good n a k (code c k) u.good h (code_lt c k);
        codes = λ i l.
            ⊎_elim
            (λ (b : i < k). code_other a k (code c k) i (λ z. omega arith) ∙ u.codes i b)
            (λ (b : k ≤ i). let z : i ≡ k = omega arith in rw z (code_same a k (code c k) (code_lt c k)))
            (below_or i k);
      })

  code_step : (k : ℕ) (c a : Cube) (r : List ℕ) → k < n → spelt n m k a 0 (glyph (code c k) ∷ r) ≡ spelt n m (suc k) (with_code a k (code c k)) 0 r
  unfolding spelt
  code_step k c a r h =
      let g = glyphs (code c k) (code_lt c k) in
      simp (g.unblank, lt-ltb k n h, g.coded, lt-ltb (code c k) 3 (code_lt c k), add-one k)

  -- the codes below k are read, and the rest is left
  record Codes (c : Cube) (k : ℕ) : Type 0 where
    cube : Cube
    upto : Upto k c cube
    is : (r : List ℕ) → spelt n m 0 one 0 (cube_text k c ++ r) ≡ spelt n m k cube 0 r

  codes_read : (c : Cube) (k : ℕ) → k ≤ n → Codes c k
  unfolding cube_text
  codes_read c zero h = record { cube = one; upto = record { good = one_good n; codes = λ i l. absurd (omega arith) }; is = λ r. refl }
  codes_read c (suc k) h =
      let f : Codes c k = codes_read c k (omega arith) in
      record {
        cube = with_code f.cube k (code c k);
        upto = upto_more k c f.cube h f.upto;
        is = λ r.
            ap (spelt n m 0 one 0) (append_assoc (cube_text k c) (glyph (code c k) ∷ []) r)
            ∙ f.is (glyph (code c k) ∷ r)
            ∙ code_step k c f.cube r h;
      }

  cube_read : (c : Cube) → Good n c → (r : List ℕ) → spelt n m 0 one 0 (cube_text n c ++ r) ≡ spelt n m n c 0 r
  cube_read c g r =
      let f : Codes c n = codes_read c n (omega arith) in
      f.is r ∙ ap (λ (a : Cube). spelt n m n a 0 r) (cube_ext n f.cube c f.upto.good g (λ k h. f.upto.codes k h))

  -- the outputs below j as a number
  abbrev low : ℕ → ℕ → ℕ
  low o j = sum_below j (λ i. bit o i * 2 ^ i)

  mark_step : (c : Cube) (o j : ℕ) (r : List ℕ) → j < m → spelt n m (n + j) c (low o j) (mark_of (bit o j) ∷ r) ≡ spelt n m (n + suc j) c (low o (suc j)) r
  unfolding spelt sum_below
  mark_step c o j r h =
      let g = marks (bit o j) (bit_lt o j) in
      let back : n + j - n ≡ j = omega arith in
      let on : n + j + 1 ≡ n + suc j = omega arith in
      simp (g.unblank, le-ltb (n + j) n (omega arith), lt-ltb (n + j) (n + m) (omega arith), g.marked, lt-ltb (bit o j) 2 (bit_lt o j), back, on)

  outputs_read : (c : Cube) (o j : ℕ) → j ≤ m → (r : List ℕ) → spelt n m n c 0 (outputs_text j o ++ r) ≡ spelt n m (n + j) c (low o j) r
  unfolding outputs_text sum_below
  outputs_read c o zero h r = ap (λ (k : ℕ). spelt n m k c 0 r) (sym (add-zero n))
  outputs_read c o (suc j) h r =
      ap (spelt n m n c 0) (append_assoc (outputs_text j o) (mark_of (bit o j) ∷ []) r)
      ∙ outputs_read c o j (omega arith) (mark_of (bit o j) ∷ r)
      ∙ mark_step c o j r h

  low_all : (o : ℕ) → o < 2 ^ m → low o m ≡ o
  low_all o h =
      let lt : (i : ℕ) → bit o i < 2 = λ i. bit_lt o i in
      bit_ext_below m (low o m) o (weighted_lt (bit o) lt m) h (λ k l. weighted_bit (bit o) lt m k l)

  space_on : (c : Cube) (r : List ℕ) → spelt n m n c 0 (32 ∷ r) ≡ spelt n m n c 0 r
  unfolding spelt
  space_on c r = refl

  spelt_end : (c : Cube) (o : ℕ) → spelt n m (n + m) c o [] ≡ Some (sharing o c)
  unfolding spelt
  spelt_end c o = simp (eq-eqb (n + m) (n + m) refl)

  pub product_back : (c : Cube) (o : ℕ) → Good n c → o < 2 ^ m → spelt n m 0 one 0 (cube_text n c ++ (32 ∷ outputs_text m o)) ≡ Some (sharing o c)
  product_back c o g h =
      cube_read c g (32 ∷ outputs_text m o)
      ∙ space_on c (outputs_text m o)
      ∙ ap (spelt n m n c 0) (sym (append-nil (outputs_text m o)))
      ∙ outputs_read c o m (omega arith) []
      ∙ ap (λ (x : ℕ). spelt n m (n + m) c x []) (low_all o h)
      ∙ spelt_end c o

-- ---- the line of a product

-- a byte that is no dot
Undotted : List ℕ → Type 0
Undotted = All (λ b. eqb b dot ≡ false)

cube_inside : (n : ℕ) (c : Cube) → Solid (cube_text n c) × Undotted (cube_text n c)
unfolding cube_text Undotted
cube_inside zero c = (tt, tt)
cube_inside (suc n) c =
    let f = cube_inside n c in
    let g = glyphs (code c n) (code_lt c n) in (
      solid_append (cube_text n c) (glyph (code c n) ∷ []) f.0 (g.inside, tt),
      all_append (λ b. eqb b dot ≡ false) (cube_text n c) (glyph (code c n) ∷ []) f.1 (g.undotted, tt),
    )

outputs_inside : (m o : ℕ) → Solid (outputs_text m o) × Undotted (outputs_text m o)
unfolding outputs_text Undotted
outputs_inside zero o = (tt, tt)
outputs_inside (suc m) o =
    let f = outputs_inside m o in
    let g = marks (bit o m) (bit_lt o m) in (
      solid_append (outputs_text m o) (mark_of (bit o m) ∷ []) f.0 (g.inside, tt),
      all_append (λ b. eqb b dot ≡ false) (outputs_text m o) (mark_of (bit o m) ∷ []) f.1 (g.undotted, tt),
    )

-- a line with a byte of a word is not blank
blanks_in : (x r : List ℕ) (b : ℕ) → solid b ≡ true → blanks (x ++ (b ∷ r)) ≤ length x
unfolding blanks
blanks_in [] r b h = omega (arith, blanks_word b r h)
blanks_in (y ∷ x) r b h = go (blank y) (blanks_in x r b h)
  where
    go : (t : Bool) → blanks (x ++ (b ∷ r)) ≤ length x → cond t (suc (blanks (x ++ (b ∷ r)))) 0 ≤ suc (length x)
    go true l = omega arith
    go false l = omega arith

some_word : (x r : List ℕ) (b : ℕ) → solid b ≡ true → blank_from (x ++ (b ∷ r)) 0 ≡ false
unfolding blank_from
some_word x r b h =
    ne_eqb (0 + blanks (x ++ (b ∷ r))) (length (x ++ (b ∷ r))) (λ e. omega (arith, blanks_in x r b h, length-append x (b ∷ r)))

some_outputs : (x : List ℕ) (m o : ℕ) → 1 ≤ m → blank_from (x ++ (32 ∷ outputs_text m o)) 0 ≡ false
unfolding outputs_text
some_outputs x zero o h = absurd (omega arith)
some_outputs x (suc m) o h =
    let y : List ℕ = 32 ∷ outputs_text m o in
    let b : ℕ = mark_of (bit o m) in
    ap (λ (l : List ℕ). blank_from l 0) (sym (append_assoc x y (b ∷ []))) ∙ some_word (x ++ y) [] b (marks (bit o m) (bit_lt o m)).inside

-- the two parts of a line, without its newline
abbrev line_of : List ℕ → List ℕ → List ℕ
line_of x y = x ++ (32 ∷ y)

plain_line : (x y : List ℕ) → Solid x → Solid y → Plain (line_of x y)
plain_line x y s t = plain_append x (32 ∷ y) (solid_plain x s) (refl, solid_plain y t)

-- the line of such parts, and the lines after it
line_on : (x y t : List ℕ) → Solid x → Solid y → lines (name_line x y ++ t) ≡ line_of x y ∷ lines t
line_on x y t s u =
    let e : name_line x y ++ t ≡ line_of x y ++ (10 ∷ t) = simp append_assoc in
    ap lines e ∙ lines_on (line_of x y) t (plain_line x y s u)

-- what is known after the lines before the products, of which there were p: it is stated at line 4 that there are `count`
abbrev known : ℕ → ℕ → ℕ → ℕ → Header
known n m count p = record { inputs = n; outputs = m; esop = true; stated = count; line = 4; products = p }

-- and after fewer lines, where neither the number of products is stated nor one was read
abbrev partly : ℕ → ℕ → Bool → Header
partly n m esop = record { inputs = n; outputs = m; esop = esop; stated = unsaid; line = 0; products = 0 }

module _ (n m count p : ℕ) (few : n ≤ most_variables) (low : m ≤ output_count) where
  nothing_lacks : lacking (known n m count p) ≡ 0
  unfolding lacking
  nothing_lacks = simp (le-leb n most_variables few, le-leb m output_count low)

  product_says : (k : ℕ) (c : Cube) (o : ℕ) → 1 ≤ m → Good n c → o < 2 ^ m
      → line_says k (known n m count p) (line_of (cube_text n c) (outputs_text m o)) ≡ has (known n m count (p + 1)) (sharing o c)
  unfolding line_says says_before product Undotted
  product_says k c o some g h =
      let x : List ℕ = cube_text n c in
      let y : List ℕ = outputs_text m o in
      let l : List ℕ = line_of x y in
      let undotted : Undotted l = all_append (λ b. eqb b dot ≡ false) x (32 ∷ y) (cube_inside n c).1 (refl, (outputs_inside m o).1) in
      let first : eqb (get_or l (blanks l) 0) dot ≡ false = all_get_or (λ b. eqb b dot ≡ false) l (blanks l) 0 undotted refl in
      let says : product (known n m count p) l ≡ has (known n m count (p + 1)) (sharing o c) =
      rw nothing_lacks (ap (product_said (known n m count p)) (product_back n m few c o g h)) in
      ap (says_before k (known n m count p)) (content_all l (plain_line x y (cube_inside n c).0 (outputs_inside m o).0))
      ∙ simp (some_outputs x m o some, first) says

-- ---- the lines before the products, and the last one

-- a line with a name
named_says : (k : ℕ) (h : Header) (w r : List ℕ) → Solid w → Plain r → letters r ≡ 0 → line_says k h (dot ∷ (w ++ r)) ≡ named k h (name_of (dot ∷ w)) r
unfolding line_says says_before
named_says k h w r s t none =
    let l : List ℕ = dot ∷ (w ++ r) in
    let first : get_or l (blanks l) 0 ≡ dot = ap (λ (i : ℕ). get_or l i 0) (blanks_word dot (w ++ r) refl) in
    ap (says_before k h) (content_all l (refl, plain_append w r (solid_plain w s) t))
    ∙ simp (not_blank dot (w ++ r) refl, eq-eqb (get_or l (blanks l) 0) dot first)
    (ap₂ (λ (a b : List ℕ). named k h (name_of a) b) (first_word_lem dot w r (refl, s) none) (after_word_lem dot w r (refl, s) none))

-- a space and a number
number_rest : (x : ℕ) → Plain (32 ∷ decimal x)
number_rest x = (refl, solid_plain (decimal x) (decimal_solid x))

module _ (n m count : ℕ) where
  inputs_say : n ≤ most_variables → line_says 1 nothing_said (line_of i_name (decimal n)) ≡ knows (partly n unsaid false)
  unfolding named name_of
  inputs_say h =
      named_says 1 nothing_said (105 ∷ []) (32 ∷ decimal n) (refl, tt) (number_rest n) (no_letters_space (decimal n))
      ∙ ap (inputs_said nothing_said) (number_alone most_variables n h)

  outputs_say : 1 ≤ m → m ≤ output_count → line_says 2 (partly n unsaid false) (line_of o_name (decimal m)) ≡ knows (partly n m false)
  unfolding named name_of
  outputs_say some h =
      named_says 2 (partly n unsaid false) (111 ∷ []) (32 ∷ decimal m) (refl, tt) (number_rest m) (no_letters_space (decimal m))
      ∙ ap (outputs_said (partly n unsaid false)) (number_alone output_count m h)
      ∙ simp (le-leb 1 m some)

  type_says : line_says 3 (partly n m false) (line_of type_name esop_word) ≡ knows (partly n m true)
  unfolding named name_of only_word first_word after_word letters blanks blank_from
  type_says =
      named_says 3 (partly n m false) (116 ∷ 121 ∷ 112 ∷ 101 ∷ []) (32 ∷ esop_word) (refl, (refl, (refl, (refl, tt)))) (refl, (refl, (refl, (refl, (refl, tt)))))
      (no_letters_space esop_word)

  products_say : count ≤ most_stated → line_says 4 (partly n m true) (line_of p_name (decimal count)) ≡ knows (known n m count 0)
  unfolding named name_of
  products_say h =
      named_says 4 (partly n m true) (112 ∷ []) (32 ∷ decimal count) (refl, tt) (number_rest count) (no_letters_space (decimal count))
      ∙ ap (products_said 4 (partly n m true)) (number_alone most_stated count h)

end_says : (k : ℕ) (h : Header) → line_says k h e_name ≡ over
unfolding named name_of blank_from blanks
end_says k h = named_says k h (101 ∷ []) [] (refl, tt) tt no_letters

-- ---- the lines in turn

module _ (room : ℕ) where
  -- the lines of a text from one state on
  abbrev reads : Progress Header Shared → List (List ℕ) → Progress Header Shared
  reads = through line_says in_some 31 room

  module _ (h : Header) (l : List Shared) (k : ℕ) (x : List ℕ) (rest : List (List ℕ)) where
    on_knows : {h' : Header} → line_says k h x ≡ knows h' → reads (progress_is.before h l k) (x ∷ rest) ≡ reads (progress_is.before h' l (k + 1)) rest
    unfolding through
    on_knows e = ap (λ (s : Says Header Shared). reads (progress_is.by_line line_says in_some 31 room l k h s) rest) e

    on_has : {h' : Header} {a : Shared} → line_says k h x ≡ has h' a → in_some a ≡ true → length l < room
        → reads (progress_is.before h l k) (x ∷ rest) ≡ reads (progress_is.before h' (l ++ (a ∷ [])) (k + 1)) rest
    unfolding through
    on_has e some r =
        ap (λ (s : Says Header Shared). reads (progress_is.by_line line_says in_some 31 room l k h s) rest) e ∙ simp (some, lt-ltb (length l) room r)

  -- the last line
  end_read : (h : Header) (l : List Shared) (k : ℕ) → reads (progress_is.before h l k) (lines (e_name ++ (10 ∷ []))) ≡ progress_is.ended h l k
  unfolding lines through
  end_read h l k = ap (progress_is.by_line line_says in_some 31 room l k h) (end_says k h)

  module _ (n m count : ℕ) (few : n ≤ most_variables) (some : 1 ≤ m) (low : m ≤ output_count) where
    -- the lines of the products, after those of acc
    products_read : (l acc : List Shared) (p k : ℕ) (t : List ℕ) → All (Fine n) l → All (λ s. s.outputs < 2 ^ m) l → length acc + length l ≤ room
        → reads (progress_is.before (known n m count p) acc k) (lines (flat (product_text n m) l ++ t))
        ≡ reads (progress_is.before (known n m count (p + length l)) (acc ++ l) (k + length l)) (lines t)
    unfolding product_text
    products_read [] acc p k t f o r =
        let e : acc ≡ acc ++ [] = sym (append-nil acc) in
        rw (add-zero p, add-zero k, ← e)
    products_read (s ∷ l) acc p k t f o r =
        let x : List ℕ = cube_text n s.cube in
        let y : List ℕ = outputs_text m s.outputs in
        let rest : List ℕ = flat (product_text n m) l ++ t in
        let long : length (acc ++ (s ∷ [])) ≡ length acc + 1 = length-append acc (s ∷ []) in
        let ps : p + 1 + length l ≡ p + suc (length l) = omega arith in
        let ks : k + 1 + length l ≡ k + suc (length l) = omega arith in
        let is_some : in_some s ≡ true = ap not (ne_eqb s.outputs 0 f.0.some) in
        ap (λ (z : List ℕ). reads (progress_is.before (known n m count p) acc k) (lines z)) (append_assoc (product_text n m s) (flat (product_text n m) l) t)
        ∙ ap (reads (progress_is.before (known n m count p) acc k)) (line_on x y rest (cube_inside n s.cube).0 (outputs_inside m s.outputs).0)
        ∙ on_has (known n m count p) acc k (line_of x y) (lines rest) (product_says n m count p few low k s.cube s.outputs some f.0.good o.0) is_some (omega arith)
        ∙ products_read l (acc ++ (s ∷ [])) (p + 1) (k + 1) t f.1 o.1 (omega (arith, long))
        ∙ ap (λ (z : List Shared). reads (progress_is.before (known n m count (p + 1 + length l)) z (k + 1 + length l)) (lines t)) (append_assoc acc (s ∷ []) l)
        ∙ ap₂ (λ (a b : ℕ). reads (progress_is.before (known n m count a) (acc ++ (s ∷ l)) b) (lines t)) ps ks

    head_read : (t : List ℕ) → count ≤ most_stated
        → reads (progress_is.before nothing_said [] 1) (lines (head_text n m count ++ t)) ≡ reads (progress_is.before (known n m count 0) [] 5) (lines t)
    unfolding head_text
    head_read t h =
        let A : List ℕ = name_line i_name (decimal n) in
        let B : List ℕ = name_line o_name (decimal m) in
        let C : List ℕ = name_line type_name esop_word in
        let D : List ℕ = name_line p_name (decimal count) in
        let parts : (A ++ (B ++ (C ++ D))) ++ t ≡ A ++ (B ++ (C ++ (D ++ t))) =
        append_assoc A (B ++ (C ++ D)) t ∙ ap (λ (z : List ℕ). A ++ z) (append_assoc B (C ++ D) t ∙ ap (λ (z : List ℕ). B ++ z) (append_assoc C D t)) in
        let is : lines ((A ++ (B ++ (C ++ D))) ++ t)
        ≡ line_of i_name (decimal n) ∷ line_of o_name (decimal m) ∷ line_of type_name esop_word ∷ line_of p_name (decimal count) ∷ lines t =
        ap lines parts
        ∙ line_on i_name (decimal n) (B ++ (C ++ (D ++ t))) (refl, (refl, tt)) (decimal_solid n)
        ∙ ap (λ (z : List (List ℕ)). line_of i_name (decimal n) ∷ z)
        (line_on o_name (decimal m) (C ++ (D ++ t)) (refl, (refl, tt)) (decimal_solid m)
        ∙ ap (λ (z : List (List ℕ)). line_of o_name (decimal m) ∷ z)
        (line_on type_name esop_word (D ++ t) (refl, (refl, (refl, (refl, (refl, tt))))) (refl, (refl, (refl, (refl, tt))))
        ∙ ap (λ (z : List (List ℕ)). line_of type_name esop_word ∷ z) (line_on p_name (decimal count) t (refl, (refl, tt)) (decimal_solid count)))) in
        ap (reads (progress_is.before nothing_said [] 1)) is
        ∙ on_knows nothing_said [] 1 (line_of i_name (decimal n)) _ (inputs_say n m count few)
        ∙ on_knows (partly n unsaid false) [] 2 (line_of o_name (decimal m)) _ (outputs_say n m count some low)
        ∙ on_knows (partly n m false) [] 3 (line_of type_name esop_word) _ (type_says n m count)
        ∙ on_knows (partly n m true) [] 4 (line_of p_name (decimal count)) (lines t) (products_say n m count h)

-- ---- a map that was printed

module _ (n m room : ℕ) (l : List Shared) (few : n ≤ most_variables) (some : 1 ≤ m) (low : m ≤ output_count) where
  -- the products that there were are as many as were stated
  finishes : (p k : ℕ) → length l ≤ most_records → length l ≡ p → finished (known n m (length l) p) l k ≡ made n m l
  finishes p k many e =
      simp (nothing_lacks n m (length l) p few low, ne_eqb (length l) unsaid (λ z. omega arith), eq-eqb (length l) p e)

  pub read_back : All (Fine n) l → All (λ s. s.outputs < 2 ^ m) l → length l ≤ room → length l ≤ most_records → pla_of room (pla_text n m l) ≡ made n m l
  unfolding pla_of read_through gathered pla_text
  read_back fine inside fits many =
      let count : ℕ = length l in
      let end : List ℕ = e_name ++ (10 ∷ []) in
      let whole : reads room (progress_is.before nothing_said [] 1) (lines (pla_text n m l)) ≡ progress_is.ended (known n m count (0 + count)) l (5 + count) =
      head_read room n m count few some low (flat (product_text n m) l ++ end) (omega arith)
      ∙ products_read room n m count few some low l [] 0 5 end fine inside (omega arith)
      ∙ end_read room (known n m count (0 + count)) l (5 + count) in
      ap (λ (t : Bool). at_end (cond t (reads room (progress_is.before nothing_said [] 1) (lines (pla_text n m l))) (progress_is.refused_by 36 0)))
      (le-leb (length (pla_text n m l)) most_text (omega (arith, text_long n m l few low many)))
      ∙ ap at_end whole
      ∙ finishes (0 + count) (5 + count) many (sym (zero-add count))

-- A map laid into a buffer: a line, the outputs of a product, and the lines of a list of records in turn; and how long its text is.
-- Assumes nothing.
use mathlib.Core.Path.{◌≡◌, refl, sym, ap, ◌∙◌}
use mathlib.Core.Bool.{cond}
use mathlib.Core.List.{List, [], ◌∷◌, ◌++◌, append-nil}
use Prim.Native.Nat.{ℕ, zero, suc, ◌+◌, ◌*◌, ◌/◌, ◌≤◌, ◌<◌}
use native.Mathlib.Nat.{mul-le-mul_right}
use native.Mathlib.Numerals.{add-one}
use native.Mathlib.Omega.{arith}
use lib.Dec.{eqb}
use lib.ListN.{length, get_or, take, length-append}
use lib.Seq.{take-suc, take_all}
use borrow.Author.Tests.{eq-eqb, ne_eqb}
use Rattle.bits.specs.Bits.{bit}
use Rattle.cube.specs.Lists.{most_variables, most_records}
use Rattle.records.specs.Records.{flat}
use Rattle.records.proofs.Images.{flat_append, length_flat}
use Rattle.records.proofs.Records.{length_list}
use Rattle.shared.specs.declared.Shared.{Shared}
use Rattle.shared.specs.SharedRecord.{shares, shares_of, no_shared, shared_width}
use Rattle.shared.specs.Outputs.{output_count}
use Rattle.text.specs.Numbers.{decimal}
use Rattle.text.specs.Cubes.{cube_text}
use Rattle.text.specs.Places.{Laid}
use Rattle.text.proofs.Laying.{none, after, kept, length_cube}
use Rattle.text.proofs.Numbers.{decimal_short}
use Rattle.pla.specs.Names.{i_name, o_name, type_name, p_name, e_name, esop_word}
use Rattle.pla_print.specs.Printing.{name_line, head_text, outputs_text, product_text, pla_text}

-- ---- a line of two parts

module _ {b b1 b2 b3 b4 s t : List ℕ} {at p q r z : ℕ} where
  pub line_laid : Laid b at s p b1 → Laid b1 p (32 ∷ []) q b2 → Laid b2 q t r b3 → Laid b3 r (10 ∷ []) z b4 → Laid b at (name_line s t) z b4
  line_laid f g h k = after f (after g (after h k))

pub product_laid : {b b1 b2 b3 b4 : List ℕ} {at p q r z : ℕ} (n m : ℕ) (s : Shared) → Laid b at (cube_text n s.cube) p b1 → Laid b1 p (32 ∷ []) q b2
    → Laid b2 q (outputs_text m s.outputs) r b3 → Laid b3 r (10 ∷ []) z b4 → Laid b at (product_text n m s) z b4
unfolding product_text
product_laid n m s f g h k = line_laid f g h k

pub head_laid : {b b1 b2 b3 b4 : List ℕ} {at p q r z : ℕ} (n m count : ℕ) → Laid b at (name_line i_name (decimal n)) p b1
    → Laid b1 p (name_line o_name (decimal m)) q b2 → Laid b2 q (name_line type_name esop_word) r b3 → Laid b3 r (name_line p_name (decimal count)) z b4
    → Laid b at (head_text n m count) z b4
unfolding head_text
head_laid n m count f g h k = after f (after g (after h k))

-- ---- the outputs of a product

pub mark_one : (x : ℕ) → x ≡ 1 → ◌≡◌ {A = ℕ} 49 (cond (eqb x 1) 49 48)
mark_one x h = simp (eq-eqb x 1 h)

pub mark_zero : (x : ℕ) → (x ≡ 1 → ⊥) → ◌≡◌ {A = ℕ} 48 (cond (eqb x 1) 49 48)
mark_zero x h = simp (ne_eqb x 1 h)

-- the characters of the first k outputs
pub record Marked (m o : ℕ) (b : List ℕ) (at p : ℕ) (b' : List ℕ) (k : ℕ) : Type 0 where
  pub upto : k ≤ m
  pub front : Laid b at (outputs_text k o) p b'

pub marked_none : (m o : ℕ) (b : List ℕ) (at : ℕ) → Marked m o b at at b 0
unfolding outputs_text
marked_none m o b at = record { upto = omega arith; front = none }

module _ {m o : ℕ} {b b' : List ℕ} {at p k : ℕ} (f : Marked m o b at p b' k) where
  pub marked_more : {b'' : List ℕ} {q x g : ℕ} → k < m → x ≡ bit o k → g ≡ cond (eqb x 1) 49 48 → Laid b' p (g ∷ []) q b'' → Marked m o b at q b'' (k + 1)
  unfolding outputs_text
  marked_more {b''} {q} {x} {g} h e d l = record {
    upto = omega arith;
    front = rw add-one (after f.front (rw (d ∙ ap (λ (y : ℕ). cond (eqb y 1) 49 48) e) at l));
  }

  pub marked_end : m ≤ k → Laid b at (outputs_text m o) p b'
  marked_end h = let e : k ≡ m = omega (arith, f.upto) in rw e at f.front

  pub marked_kept : length b' ≡ length b
  marked_kept = kept f.front

-- ---- the lines of a list of records

-- the lines of the first k records of a buffer
pub record Listed (n m : ℕ) (list b : List ℕ) (at p : ℕ) (b' : List ℕ) (k : ℕ) : Type 0 where
  pub upto : k ≤ length list / shared_width
  pub front : Laid b at (flat (product_text n m) (take k (shares_of list))) p b'

pub listed_none : (n m : ℕ) (list b : List ℕ) (at : ℕ) → Listed n m list b at at b 0
listed_none n m list b at = record { upto = omega arith; front = none }

module _ {n m : ℕ} {list b b' : List ℕ} {at p k : ℕ} (f : Listed n m list b at p b' k) where
  pub listed_more : {b'' : List ℕ} {q : ℕ} {s : Shared} → k < length list / shared_width → s ≡ get_or (shares_of list) k no_shared
      → Laid b' p (product_text n m s) q b'' → Listed n m list b at q b'' (k + 1)
  listed_more {b''} {q} {s} h e l =
      let l1 : List Shared = take k (shares_of list) in
      let long : k < length (shares_of list) = rw (length_list shares list) h in
      let more : flat (product_text n m) l1 ++ product_text n m s ≡ flat (product_text n m) (take (suc k) (shares_of list)) =
      ap (λ (t : List ℕ). flat (product_text n m) l1 ++ t) (sym (append-nil (product_text n m s)))
      ∙ sym (flat_append (product_text n m) l1 (s ∷ []))
      ∙ ap (λ (x : Shared). flat (product_text n m) (l1 ++ (x ∷ []))) e
      ∙ ap (flat (product_text n m)) (sym (take-suc (shares_of list) k no_shared long)) in
      record { upto = omega arith; front = rw (add-one, ← more) (after f.front l) }

  pub listed_end : length list / shared_width ≤ k → Laid b at (flat (product_text n m) (shares_of list)) p b'
  listed_end h =
      let all : length (shares_of list) ≤ k = rw (length_list shares list) h in
      rw (take_all k (shares_of list) all) at f.front

  pub listed_kept : length b' ≡ length b
  listed_kept = kept f.front

-- ---- the whole text

pub pla_laid : {b b1 b2 b3 : List ℕ} {p q z : ℕ} (n m : ℕ) (list : List ℕ) → Laid b 0 (head_text n m (length list / shared_width)) p b1
    → Laid b1 p (flat (product_text n m) (shares_of list)) q b2 → Laid b2 q (e_name ++ (10 ∷ [])) z b3 → Laid b 0 (pla_text n m (shares_of list)) z b3
unfolding pla_text
pla_laid n m list f g h = rw (length_list shares list) (after f (after g h))

-- ---- how long it is

outputs_long : (m o : ℕ) → length (outputs_text m o) ≡ m
unfolding outputs_text
outputs_long zero o = refl
outputs_long (suc m) o = length-append (outputs_text m o) (cond (eqb (bit o m) 1) 49 48 ∷ []) ∙ rw (outputs_long m o) (add-one m)

line_long : (x y : List ℕ) → length (name_line x y) ≡ length x + length y + 2
line_long x y = omega (arith, length-append x (32 ∷ (y ++ (10 ∷ []))), length-append y (10 ∷ []))

product_long : (n m : ℕ) (s : Shared) → length (product_text n m s) ≡ n + m + 2
unfolding product_text
product_long n m s = line_long (cube_text n s.cube) (outputs_text m s.outputs) ∙ rw (length_cube n s.cube, outputs_long m s.outputs)

head_long : (n m count : ℕ) → n ≤ most_variables → m ≤ output_count → count ≤ most_records → length (head_text n m count) ≤ 64
unfolding head_text
head_long n m count few low many =
    let A : List ℕ = name_line i_name (decimal n) in
    let B : List ℕ = name_line o_name (decimal m) in
    let C : List ℕ = name_line type_name esop_word in
    let D : List ℕ = name_line p_name (decimal count) in
    let a : length (decimal n) ≤ 2 = decimal_short 1 n (omega arith) in
    let b : length (decimal m) ≤ 2 = decimal_short 1 m (omega arith) in
    let d : length (decimal count) ≤ 4 = decimal_short 3 count (omega arith) in
    omega (arith, length-append A (B ++ (C ++ D)), length-append B (C ++ D), length-append C D, line_long i_name (decimal n), line_long o_name (decimal m), line_long p_name (decimal count))

-- the text of the longest list: 66 characters for each of 4,096 products, and 128 for the other lines
pub text_long : (n m : ℕ) (l : List Shared) → n ≤ most_variables → m ≤ output_count → length l ≤ most_records → length (pla_text n m l) ≤ 270464
unfolding pla_text
text_long n m l few low many =
    let F : List ℕ = flat (product_text n m) l in
    let wide : (n + m + 2) * length l ≤ 66 * length l = mul-le-mul_right (length l) (omega arith) in
    omega (
      arith,
      length-append (head_text n m (length l)) (F ++ (e_name ++ (10 ∷ []))),
      length-append F (e_name ++ (10 ∷ [])),
      head_long n m (length l) few low many,
      length_flat (product_text n m) (n + m + 2) (product_long n m) l,
    )

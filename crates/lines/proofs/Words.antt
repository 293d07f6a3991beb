-- The words of a line: where one ends, whether two are the same, and what a line says that says one.
-- Assumes nothing.
use mathlib.Core.Path.{◌≡◌, refl, sym, ap, ◌∙◌}
use mathlib.Core.Bool.{Bool, true, false, cond, not, ◌&&◌}
use mathlib.Core.List.{List, [], ◌∷◌}
use Prim.Native.Nat.{ℕ, suc, ◌+◌, ◌-◌, ◌≤◌, ◌<◌}
use native.Mathlib.Nat.{add-zero}
use native.Mathlib.Numerals.{add-one}
use native.Mathlib.Omega.{arith}
use lib.Dec.{eqb}
use lib.ListN.{length, get_or, take, drop, drop_of_length-le, length-drop}
use lib.Seq.{drop-cons, drop-drop, take_all}
use borrow.Author.Tests.{not-true, not-false, eq-eqb, ne_eqb}
use Rattle.std.specs.List.{prefix_len}
use Rattle.std.specs.Prelude.{Some, None}
use Rattle.text.specs.Blanks.{blank, blanks, past_blanks}
use Rattle.text.specs.Reading.{number_in, Reading, read_to, wrong_at}
use Rattle.lines.specs.Words.{letters, past_word, first_word, after_word, blank_from, same, only_number, only_word}

-- ---- blanks and letters are bytes of the text

either_le : (s : Bool) {x y n : ℕ} → x ≤ n → y ≤ n → cond s x y ≤ n
either_le true f g = f
either_le false f g = g

pub blanks_le : (l : List ℕ) → blanks l ≤ length l
unfolding blanks
blanks_le [] = omega arith
blanks_le (b ∷ l) = either_le (blank b) (omega (arith, blanks_le l)) (omega arith)

pub letters_le : (l : List ℕ) → letters l ≤ length l
unfolding letters
letters_le [] = omega arith
letters_le (b ∷ l) = either_le (blank b) (omega arith) (omega (arith, letters_le l))

pub past_blanks_within : {p : ℕ} (l : List ℕ) (at : ℕ) → p ≡ past_blanks l at → at ≤ length l → p ≤ length l
past_blanks_within l at e h = omega (arith, blanks_le (drop at l), length-drop at l)

pub past_word_within : {p : ℕ} (l : List ℕ) (at : ℕ) → p ≡ past_word l at → at ≤ length l → p ≤ length l
past_word_within l at e h = omega (arith, letters_le (drop at l), length-drop at l)

-- ---- the end of a word

pub letters_prefix : (l : List ℕ) → prefix_len (λ (b : ℕ). not (blank b)) l ≡ letters l
unfolding letters
letters_prefix [] = refl
letters_prefix (b ∷ l) = go (blank b) _ _ (omega (arith, letters_prefix l))
  where
    go : (s : Bool) (m n : ℕ) → 1 + m ≡ suc n → cond (not s) (1 + m) 0 ≡ cond s 0 (suc n)
    go true m n e = refl
    go false m n e = e

-- ---- blanks alone

pub blank_told : (l : List ℕ) (at : ℕ) {p : ℕ} → p ≡ past_blanks l at → eqb p (length l) ≡ blank_from l at
unfolding blank_from
blank_told l at e = ap (λ (p : ℕ). eqb p (length l)) e

-- ---- a line that says one word

pub word_end_within : (l : List ℕ) {from end : ℕ} → from ≡ past_blanks l 0 → end ≡ past_word l from → end ≤ length l
word_end_within l {from} d e = past_word_within l from e (past_blanks_within l 0 d (omega arith))

-- the word from its first letter to its end, and what stands after it
module _ (l w : List ℕ) {from end : ℕ} (d : from ≡ past_blanks l 0) (e : end ≡ past_word l from) where
  first : blanks l ≡ from
  first = omega arith

  pub word_is : take (end - from) (drop from l) ≡ first_word l
  unfolding first_word
  word_is =
      let count : end - from ≡ letters (drop from l) = omega arith in
      rw (count, first)

  pub after_is : drop end l ≡ after_word l
  unfolding after_word
  after_is =
      let place : end ≡ from + letters (drop from l) = e in
      rw (place, first, drop-drop (letters (drop from l)) from l)

  module _ {s : Bool} (f : s ≡ same (take (end - from) (drop from l)) w) where
    said : s ≡ same (first_word l) w
    said = f ∙ ap (λ (x : List ℕ). same x w) word_is

    pub other_word : s ≡ false → s ≡ only_word w l
    unfolding only_word
    other_word h = h ∙ rw (sym said ∙ h)

    pub word_alone : s ≡ true → {z : Bool} → z ≡ blank_from (take (length l - end) (drop end l)) 0 → z ≡ only_word w l
    unfolding only_word
    word_alone h {z} k = k ∙ ap (λ (x : List ℕ). blank_from x 0) (take_all (length l - end) (drop end l) (omega (arith, length-drop end l)) ∙ after_is) ∙ rw (sym said ∙ h)

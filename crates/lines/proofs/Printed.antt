-- Lines as they are printed: a text of such lines is taken apart into them, and each into its words.
-- Assumes nothing.
use mathlib.Core.Path.{◌≡◌, refl, sym, ap, ◌∙◌}
use mathlib.Core.Bool.{Bool, true, false, cond, not, ◌&&◌}
use mathlib.Core.List.{List, [], ◌∷◌, ◌++◌, append-nil}
use Prim.Native.Nat.{ℕ, zero, suc, ◌+◌, ◌/◌, ◌%◌, ◌≤◌}
use native.Mathlib.Nat.{add_comm}
use native.Mathlib.Numerals.{add-one}
use native.Mathlib.Omega.{arith}
use lib.Dec.{eqb, ltb}
use lib.ListN.{length, take, drop}
use lib.Seq.{take-length, take-append_seam, drop-append_seam, drop-length}
use borrow.Author.Tests.{eq-eqb, ne_eqb, not-true}
use Rattle.std.specs.Prelude.{Some, None}
use Rattle.bits.specs.Sums.{All}
use Rattle.bits.proofs.Bools.{both_true}
use Rattle.bits.proofs.Sums.{all_append, all_each}
use Rattle.lines.specs.Bytes.{index_after, index_of}
use Rattle.text.specs.Blanks.{blank, blanks, past_blanks}
use Rattle.text.specs.Numbers.{decimal_by, decimal}
use Rattle.text.specs.Reading.{number_in, read_to}
use Rattle.text.proofs.ReadBack.{number_back}
use Rattle.lines.specs.Lines.{newline, hash, lines, content}
use Rattle.lines.specs.Lines as line_of
use Rattle.lines.specs.Words.{letters, first_word, after_word, blank_from, alone, only_number}

-- ---- bytes that a line can have before a comment, and those that a word can have

-- neither a newline nor the sign that begins a comment
abbrev pub plain : ℕ → Bool
plain b = not (eqb b newline) && not (eqb b hash)

-- and no blank
abbrev pub solid : ℕ → Bool
solid b = plain b && not (blank b)

abbrev pub Plain : List ℕ → Type 0
Plain = All (λ b. plain b ≡ true)

abbrev pub Solid : List ℕ → Type 0
Solid = All (λ b. solid b ≡ true)

pub solid_plain : (w : List ℕ) → Solid w → Plain w
solid_plain = all_each (λ b. solid b ≡ true) (λ b. plain b ≡ true) (λ b h. (both_true (plain b) (not (blank b)) h).0)

pub plain_append : (x y : List ℕ) → Plain x → Plain y → Plain (x ++ y)
plain_append = all_append (λ b. plain b ≡ true)

pub solid_append : (x y : List ℕ) → Solid x → Solid y → Solid (x ++ y)
solid_append = all_append (λ b. solid b ≡ true)

-- a byte of a word is no blank
solid_blank : (b : ℕ) → solid b ≡ true → blank b ≡ false
solid_blank b h = not-true (blank b) (both_true (plain b) (not (blank b)) h).1

-- ---- lines

pub lines_on : (x t : List ℕ) → Plain x → lines (x ++ (newline ∷ t)) ≡ x ∷ lines t
unfolding lines
lines_on [] t p = refl
lines_on (b ∷ x) t p =
    let no : eqb b newline ≡ false = not-true (eqb b newline) (both_true (not (eqb b newline)) (not (eqb b hash)) p.0).0 in
    simp no (ap (line_of.begun b) (lines_on x t p.1))

no_hash : (x : List ℕ) → Plain x → index_of hash x ≡ length x
unfolding index_of index_after
no_hash [] p = refl
no_hash (b ∷ x) p =
    let no : eqb b hash ≡ false = not-true (eqb b hash) (both_true (not (eqb b newline)) (not (eqb b hash)) p.0).1 in
    simp no (ap suc (no_hash x p.1))

pub content_all : (x : List ℕ) → Plain x → content x ≡ x
unfolding content
content_all x p = ap (λ (k : ℕ). take k x) (no_hash x p) ∙ take-length x

-- ---- the characters of numbers

-- every character from `-` on
pub dark_solid : (b : ℕ) → 45 ≤ b → solid b ≡ true
dark_solid b h =
    simp (ne_eqb b 10 (λ e. omega arith), ne_eqb b 35 (λ e. omega arith), ne_eqb b 32 (λ e. omega arith), ne_eqb b 9 (λ e. omega arith), ne_eqb b 13 (λ e. omega arith))

digits_solid : (turns x : ℕ) → Solid (decimal_by turns x)
unfolding decimal_by
digits_solid zero x = (dark_solid (48 + x % 10) (omega arith), tt)
digits_solid (suc turns) x = go (ltb x 10) (digits_solid turns (x / 10))
  where
    go : (t : Bool) → Solid (decimal_by turns (x / 10)) → Solid (cond t ((48 + x) ∷ []) (decimal_by turns (x / 10) ++ ((48 + x % 10) ∷ [])))
    go true front = (dark_solid (48 + x) (omega arith), tt)
    go false front = solid_append (decimal_by turns (x / 10)) ((48 + x % 10) ∷ []) front (dark_solid (48 + x % 10) (omega arith), tt)

pub decimal_solid : (x : ℕ) → Solid (decimal x)
decimal_solid x = digits_solid x x

-- ---- words

-- how far a word goes, where what follows it begins with a blank or is nothing
letters_on : (w r : List ℕ) → Solid w → letters r ≡ 0 → letters (w ++ r) ≡ length w
unfolding letters
letters_on [] r s h = h
letters_on (b ∷ w) r s h = simp (solid_blank b s.0) (ap suc (letters_on w r s.1 h))

pub no_letters : letters [] ≡ 0
unfolding letters
no_letters = refl

pub no_letters_space : (t : List ℕ) → letters (32 ∷ t) ≡ 0
unfolding letters
no_letters_space t = refl

-- a word of at least one letter has no blank before it
pub blanks_word : (b : ℕ) (w : List ℕ) → solid b ≡ true → blanks (b ∷ w) ≡ 0
unfolding blanks
blanks_word b w h = simp (solid_blank b h)

pub not_blank : (b : ℕ) (t : List ℕ) → solid b ≡ true → blank_from (b ∷ t) 0 ≡ false
unfolding blank_from
not_blank b t h = ne_eqb (past_blanks (b ∷ t) 0) (length (b ∷ t)) (λ e. omega (arith, blanks_word b t h))

module _ (b : ℕ) (w r : List ℕ) (s : Solid (b ∷ w)) (h : letters r ≡ 0) where
  from : drop (blanks (b ∷ (w ++ r))) (b ∷ (w ++ r)) ≡ b ∷ (w ++ r)
  from = ap (λ (k : ℕ). drop k (b ∷ (w ++ r))) (blanks_word b (w ++ r) s.0)

  pub first_word_lem : first_word (b ∷ (w ++ r)) ≡ b ∷ w
  unfolding first_word
  first_word_lem =
      ap (λ (t : List ℕ). take (letters t) t) from ∙ ap (λ (k : ℕ). take k (b ∷ (w ++ r))) (letters_on (b ∷ w) r s h) ∙ take-append_seam (b ∷ w) r

  pub after_word_lem : after_word (b ∷ (w ++ r)) ≡ r
  unfolding after_word
  after_word_lem =
      ap (λ (t : List ℕ). drop (letters t) t) from ∙ ap (λ (k : ℕ). drop k (b ∷ (w ++ r))) (letters_on (b ∷ w) r s h) ∙ drop-append_seam (b ∷ w) r

-- ---- a number after a space, alone

blanks_number : (w : List ℕ) → Solid w → blanks (32 ∷ w) ≡ 1
unfolding blanks
blanks_number [] s = refl
blanks_number (b ∷ w) s = ap suc (blanks_word b w s.0)

pub number_alone : (most x : ℕ) → x ≤ most → only_number most (32 ∷ decimal x) ≡ Some x
unfolding only_number blank_from blanks
number_alone most x h =
    let l : List ℕ = 32 ∷ decimal x in
    let first : past_blanks l 0 ≡ 1 = ap (λ (k : ℕ). 0 + k) (blanks_number (decimal x) (decimal_solid x)) in
    let read : number_in most l (past_blanks l 0) ≡ read_to x (1 + length (decimal x)) =
    ap (number_in most l) first ∙ number_back most x h l [] 1 refl (sym (append-nil (decimal x))) in
    let none : drop (1 + length (decimal x)) l ≡ [] = ap (λ (k : ℕ). drop k l) (add_comm 1 (length (decimal x)) ∙ add-one (length (decimal x))) ∙ drop-length (decimal x) in
    let p : ℕ = 1 + length (decimal x) in
    let ends : eqb (past_blanks l p) (length l) ≡ true = eq-eqb (past_blanks l p) (length l) (omega (arith, ap blanks none)) in
    ap (alone l) read ∙ ap (λ (t : Bool). cond t (Some x) None) ends

-- What a line with a name says, case by case.
-- Assumes nothing.
use mathlib.Core.Path.{◌≡◌, refl, sym, ap, ◌∙◌}
use mathlib.Core.Logic.{◌⊎◌, ⊎_elim, inl}
use mathlib.Core.List.{List, []}
use Prim.Native.Nat.{ℕ, ◌-◌, ◌<◌}
use native.Mathlib.Omega.{arith}
use lib.ListN.{length, get_or, take, drop, length-drop}
use lib.Seq.{take_all}
use borrow.Author.Tests.{eq-eqb, ne_eqb}
use Rattle.lines.specs.Bytes.{index_of}
use Rattle.shared.specs.declared.Shared.{Shared}
use Rattle.text.specs.Blanks.{blanks, past_blanks}
use Rattle.lines.specs.Lines.{hash, content}
use Rattle.lines.specs.Words.{past_word, after_word}
use Rattle.lines.specs.Gathering.{Says, knows, bad}
use Rattle.lines.proofs.Words.{blank_told, word_is, after_is}
use Rattle.pla.specs.declared.Header.{Header}
use Rattle.pla.specs.Header.{named}
use Rattle.pla.specs.Names.{name_of}
use Rattle.pla.specs.Products.{product}
use Rattle.pla.specs.Pla.{says_before, line_says}

-- ---- a number that is no name's

pub named_unknown : (k : ℕ) (h : Header) (name : ℕ) (l : List ℕ) → (name ≡ 0) ⊎ (6 < name) → bad 33 ≡ named k h name l
unfolding named
named_unknown k h name l =
    ⊎_elim (λ z. rw z)
    (λ o. simp (ne_eqb name 1 (λ e. omega arith), ne_eqb name 2 (λ e. omega arith), ne_eqb name 3 (λ e. omega arith), ne_eqb name 4 (λ e. omega arith), ne_eqb name 5 (λ e. omega arith), ne_eqb name 6 (λ e. omega arith)))

-- ---- what stands before the comment: nothing, a product, or a name

module _ (k : ℕ) (h : Header) (c : List ℕ) {from : ℕ} (d : from ≡ past_blanks c 0) where
  pub says_nothing : from ≡ length c → knows h ≡ says_before k h c
  unfolding says_before
  says_nothing e = simp (sym (blank_told c 0 d), eq-eqb from (length c) e)

  module _ (n : from ≡ length c → ⊥) {b : ℕ} (e : b ≡ get_or c from 0) where
    first : b ≡ get_or c (blanks c) 0
    first = let at : from ≡ blanks c = omega arith in e ∙ ap (λ (p : ℕ). get_or c p 0) at

    pub says_product : {r : Says Header Shared} → (b ≡ 46 → ⊥) → r ≡ product h c → r ≡ says_before k h c
    unfolding says_before
    says_product o g = g ∙ simp (sym (blank_told c 0 d), ne_eqb from (length c) n, sym first, ne_eqb b 46 o)

    pub says_named : {r : Says Header Shared} {end x : ℕ} → b ≡ 46 → end ≡ past_word c from → x ≡ name_of (take (end - from) (drop from c))
        → r ≡ named k h x (take (length c - end) (drop end c)) → r ≡ says_before k h c
    unfolding says_before
    says_named {end = end} o f y g =
        let rest : take (length c - end) (drop end c) ≡ after_word c =
        take_all (length c - end) (drop end c) (omega (arith, length-drop end c)) ∙ after_is c [] d f in
        g ∙ simp (y, word_is c [] d f, rest, sym (blank_told c 0 d), ne_eqb from (length c) n, sym first, eq-eqb b 46 o)

    pub says_unknown : {end : ℕ} → b ≡ 46 → end ≡ past_word c from → 0 ≡ name_of (take (end - from) (drop from c)) → bad 33 ≡ says_before k h c
    says_unknown {end} o f y = says_named o f y (named_unknown k h 0 (take (length c - end) (drop end c)) (inl refl))

-- a whole line
pub line_before : (k : ℕ) (h : Header) (l : List ℕ) {end : ℕ} {r : Says Header Shared} → end ≡ index_of hash l → r ≡ says_before k h (take end l) → r ≡ line_says k h l
unfolding line_says content
line_before k h l e d = d ∙ simp e

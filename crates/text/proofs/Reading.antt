-- Reading, a character at a time: where it goes on, where it ends and where it is wrong.
-- Assumes nothing.
use mathlib.Core.Path.{◌≡◌, refl, sym, ap, ◌∙◌}
use mathlib.Core.Bool.{Bool, true, false, cond, not, true≢false}
use mathlib.Core.Logic.{⊎_elim}
use mathlib.Core.List.{List, [], ◌∷◌}
use Prim.Native.Nat.{ℕ, zero, suc, ◌+◌, ◌*◌, ◌-◌, ◌≤◌, ◌<◌}
use native.Mathlib.Nat.{le_of_lt}
use native.Mathlib.Numerals.{add-one}
use native.Mathlib.Omega.{arith}
use lib.Dec.{leb, ltb}
use lib.ListN.{length, get_or, drop, drop_of_length-le, get_or-eq_default}
use lib.Seq.{drop-cons}
use borrow.Author.Tests.{not-true, not-false, lt-ltb, le-ltb, eq-eqb, ne_eqb, leb-true}
use Rattle.std.specs.Prelude.{Option, Some, None}
use Rattle.std.specs.List.{prefix_len}
use Rattle.std.proofs.lemmas.Option.{none-some, cond_some}
use Rattle.bits.proofs.Bools.{below_or}
use Rattle.cube.specs.declared.Cube.{Cube}
use Rattle.cube.specs.Cubes.{one, with_code}
use Rattle.text.specs.Blanks.{blank, blanks, past_blanks}
use Rattle.text.specs.Numbers.{is_digit, with_digit}
use Rattle.text.specs.Cubes.{code_of_glyph, known}
use Rattle.text.specs.Reading.{word_in, digits_from, number_in, codes_from, cube_in, Reading, read_to, wrong_at}

-- ---- words: what is read from letter k on, at p, is what is read from the first on

pub record Matching (number : ℕ) (word t : List ℕ) (at p k : ℕ) : Type 0 where
  pub same : word_in number (drop k word) t p ≡ word_in number word t at

pub matching_none : (number : ℕ) (word t : List ℕ) (at : ℕ) → Matching number word t at at 0
matching_none number word t at = record { same = refl }

module _ {number at p k : ℕ} {word t : List ℕ} (m : Matching number word t at p k) where
  on_letter : k < length word → word_in number (get_or word k 0 ∷ drop (suc k) word) t p ≡ word_in number word t at
  on_letter h = rw (drop-cons word k 0 h) at m.same

  pub word_short : k < length word → length t ≤ p → wrong_at p ≡ word_in number word t at
  unfolding word_in
  word_short h l = simp (le-ltb p (length t) l) at (on_letter h)

  pub word_other : k < length word → p < length t → (get_or t p 0 ≡ get_or word k 0 → ⊥) → wrong_at p ≡ word_in number word t at
  unfolding word_in
  word_other h l e = simp (lt-ltb p (length t) l, ne_eqb (get_or t p 0) (get_or word k 0) e) at (on_letter h)

  pub word_more : k < length word → p < length t → get_or t p 0 ≡ get_or word k 0 → Matching number word t at (p + 1) (k + 1)
  unfolding word_in
  word_more h l e = record {
    same = rw (add-one k) (simp (lt-ltb p (length t) l, eq-eqb (get_or t p 0) (get_or word k 0) e) at (on_letter h));
  }

  pub word_end : length word ≤ k → read_to number p ≡ word_in number word t at
  unfolding word_in
  word_end h = rw (drop_of_length-le word h) at m.same

-- ---- blanks

pub blanks_prefix : (l : List ℕ) → prefix_len blank l ≡ blanks l
unfolding blanks
blanks_prefix [] = refl
blanks_prefix (b ∷ l) =
    let more : 1 + prefix_len blank l ≡ suc (blanks l) = omega (arith, blanks_prefix l) in
    ap (λ (n : ℕ). cond (blank b) n 0) more

-- ---- what is not below, and what is

pub above : (s : Bool) (x : ℕ) → cond s (Some x) None ≡ None → s ≡ false
above true x e = absurd (none-some x (sym e))
above false x e = refl

-- ---- numbers: what is read from p on, after x

pub record Digits (most : ℕ) (t : List ℕ) (at p x : ℕ) : Type 0 where
  pub same : digits_from most (drop p t) p x ≡ number_in most t at
  pub within : p ≤ length t

module _ (most at : ℕ) (t : List ℕ) {b : ℕ} {s : Bool} (e : b ≡ get_or t at 0) (d : s ≡ is_digit b) where
  pub no_digit : not s ≡ true → wrong_at at ≡ number_in most t at
  unfolding number_in
  no_digit h = simp (sym e, sym d ∙ not-true s h)

  -- past the end there is no digit
  digit_within : not s ≡ false → at ≤ length t
  digit_within h =
      ⊎_elim le_of_lt
      (λ l. let none : is_digit b ≡ false = ap is_digit (e ∙ get_or-eq_default t 0 l) in absurd (true≢false (sym (not-false s h) ∙ d ∙ none)))
      (below_or at (length t))

  pub digits_none : not s ≡ false → Digits most t at at 0
  unfolding number_in
  digits_none h = record { same = simp (sym e, sym d ∙ not-false s h); within = digit_within h }

module _ {most at p x : ℕ} {t : List ℕ} (m : Digits most t at p x) where
  on_digit : p < length t → digits_from most (get_or t p 0 ∷ drop (p + 1) t) p x ≡ number_in most t at
  on_digit h = rw (drop-cons t p 0 h, ← add-one p) at m.same

  pub digits_end : length t ≤ p → read_to x (length t) ≡ number_in most t at
  unfolding digits_from
  digits_end h =
      let end : p ≡ length t = omega (arith, m.within) in
      rw end at (rw (drop_of_length-le t h) at m.same)

  module _ (h : p < length t) {s : Bool} (d : s ≡ is_digit (get_or t p 0)) where
    pub digits_stop : not s ≡ true → read_to x p ≡ number_in most t at
    unfolding digits_from
    digits_stop k = simp (sym d ∙ not-true s k) at (on_digit h)

    module _ (k : not s ≡ false) {v : ℕ} (g : v ≡ get_or t p 0 - 48) where
      by_digit : {o : Option ℕ} → o ≡ with_digit most x v → with_digit most x (get_or t p 0 - 48) ≡ o
      by_digit r = sym (rw g at r)

      pub digits_above : None ≡ with_digit most x v → wrong_at p ≡ number_in most t at
      unfolding digits_from
      digits_above r = simp (sym d ∙ not-false s k, above (leb (x * 10 + (get_or t p 0 - 48)) most) _ (by_digit r)) at (on_digit h)

      pub digits_more : {y : ℕ} → Some y ≡ with_digit most x v → Digits most t at (p + 1) y
      unfolding digits_from
      digits_more r =
          let both = cond_some (leb (x * 10 + (get_or t p 0 - 48)) most) _ _ (by_digit r) in
          record { same = rw (← both.1) (simp (sym d ∙ not-false s k, both.0) at (on_digit h)); within = omega arith }

-- ---- cubes: what is read from variable k on

pub record Coding (n : ℕ) (t : List ℕ) (at : ℕ) (c : Cube) (p k : ℕ) : Type 0 where
  pub upto : k ≤ n
  pub same : codes_from t (n - k) k p c ≡ cube_in n t at

pub coding_none : (n : ℕ) (t : List ℕ) (at : ℕ) → Coding n t at one at 0
coding_none n t at = record { upto = omega arith; same = let e : n - 0 ≡ n = omega arith in rw e }

module _ {n at p k : ℕ} {t : List ℕ} {c : Cube} (m : Coding n t at c p k) where
  on_code : k < n → codes_from t (suc (n - (k + 1))) k p c ≡ cube_in n t at
  on_code h = let e : n - k ≡ suc (n - (k + 1)) = omega arith in rw e at m.same

  pub codes_other : k < n → None ≡ known 3 (code_of_glyph (get_or t p 0)) → wrong_at p ≡ cube_in n t at
  unfolding codes_from
  codes_other h e = simp (above (ltb (code_of_glyph (get_or t p 0)) 3) _ (sym e)) at (on_code h)

  pub codes_more : {x : ℕ} {d : Cube} → k < n → Some x ≡ known 3 (code_of_glyph (get_or t p 0)) → d ≡ with_code c k x → Coding n t at d (p + 1) (k + 1)
  unfolding codes_from
  codes_more {x} {d} h e w =
      let both = cond_some (ltb (code_of_glyph (get_or t p 0)) 3) _ _ (sym e) in
      record {
        upto = omega arith;
        same = rw (w, ← both.1) (simp both.0 at (on_code h));
      }

  pub codes_end : n ≤ k → read_to c p ≡ cube_in n t at
  unfolding codes_from
  codes_end h = let e : n - k ≡ 0 = omega arith in rw e at m.same

-- What a loop over the lines of a text keeps, and what each line does to it, by what it says: any kind of item, and whatever is known beside the items.
-- Assumes nothing.
use mathlib.Core.Path.{◌≡◌, refl, sym, ap, ◌∙◌}
use mathlib.Core.Bool.{Bool, true, false}
use mathlib.Core.List.{List, [], ◌∷◌, ◌++◌}
use Prim.Native.Nat.{ℕ, ◌+◌, ◌-◌, ◌≤◌, ◌<◌}
use native.Mathlib.Omega.{arith}
use lib.ListN.{length, take, drop, length-append}
use borrow.Author.Tests.{lt-ltb, le-ltb, le-leb, lt-leb}
use Rattle.lines.specs.Bytes.{index_of}
use Rattle.lines.specs.Lines.{newline, lines}
use Rattle.lines.specs.Gathering.{most_text, Says, knows, has, over, bad, before, ended, refused_by, by_line, through, gathered}
use Rattle.lines.proofs.Lines.{line_end_within, lines_at, lines_past}

module _ {H A : Type 0} (says : ℕ → H → List ℕ → Says H A) (counts : A → Bool) (full room : ℕ) where
  -- ---- what is over or refused stays so

  pub ended_stays : (h : H) (l : List A) (k : ℕ) (rest : List (List ℕ)) → through says counts full room (ended h l k) rest ≡ ended h l k
  unfolding through
  ended_stays h l k [] = refl
  ended_stays h l k (x ∷ rest) = ended_stays h l k rest

  pub refused_stays : (number k : ℕ) (rest : List (List ℕ)) → through says counts full room (refused_by number k) rest ≡ refused_by number k
  unfolding through
  refused_stays number k [] = refl
  refused_stays number k (x ∷ rest) = refused_stays number k rest

  -- ---- a text that is too long, and one that is not

  pub gathered_long : (long : ℕ) (h : H) (t : List ℕ) → most_text < length t → gathered says counts full room long h t ≡ refused_by long 0
  unfolding gathered
  gathered_long long h t o = rw (lt-leb (length t) most_text o)

  pub gathered_whole : (long : ℕ) (h : H) (t : List ℕ) → length t ≤ most_text → gathered says counts full room long h t ≡ through says counts full room (before h [] 1) (lines t)
  unfolding gathered
  gathered_whole long h t o = rw (le-leb (length t) most_text o)

  -- ---- before line k, which begins at a place of the text: the lines from there on, read on from here, come to what the whole comes to

  pub record Gathering (h₀ : H) (t : List ℕ) (at : ℕ) (h : H) (l : List A) (k : ℕ) : Type 0 where
    pub goes : through says counts full room (before h l k) (lines (drop at t)) ≡ through says counts full room (before h₀ [] 1) (lines t)
    pub numbered : k ≤ at + 1
    pub upto : at ≤ length t + 1
    pub roomy : length l ≤ room

  pub gathering_none : (h₀ : H) (t : List ℕ) → Gathering h₀ t 0 h₀ [] 1
  gathering_none h₀ t = record { goes = refl; numbered = omega arith; upto = omega arith; roomy = omega arith }

  module _ {h₀ : H} {t : List ℕ} {at : ℕ} {h : H} {l : List A} {k : ℕ} (g : Gathering h₀ t at h l k) where
    pub gathering_end : length t ≤ at → through says counts full room (before h₀ [] 1) (lines t) ≡ before h l k
    unfolding through
    gathering_end o = sym (rw (lines_past t o) at g.goes)

    -- the line at the place
    module _ (o : at < length t) {end : ℕ} (e : end ≡ at + index_of newline (drop at t)) where
      on_line : {s : Says H A} → says k h (take (end - at) (drop at t)) ≡ s
          → through says counts full room (by_line says counts full room l k h s) (lines (drop (end + 1) t)) ≡ through says counts full room (before h₀ [] 1) (lines t)
      unfolding through
      on_line d =
          ap (λ (s : Says H A). through says counts full room (by_line says counts full room l k h s) (lines (drop (end + 1) t))) (sym d)
          ∙ (rw (lines_at t at e o) at g.goes)

      onto : {h' : H} {l' : List A} → length l' ≤ room
          → through says counts full room (before h' l' (k + 1)) (lines (drop (end + 1) t)) ≡ through says counts full room (before h₀ [] 1) (lines t)
          → Gathering h₀ t (end + 1) h' l' (k + 1)
      onto r d = record { goes = d; numbered = omega (arith, g.numbered); upto = omega (arith, line_end_within t at e (omega arith)); roomy = r }

      pub gathering_knows : {h' : H} → says k h (take (end - at) (drop at t)) ≡ knows h' → Gathering h₀ t (end + 1) h' l (k + 1)
      gathering_knows d = onto g.roomy (on_line d)

      pub gathering_over : says k h (take (end - at) (drop at t)) ≡ over → through says counts full room (before h₀ [] 1) (lines t) ≡ ended h l k
      gathering_over d = sym (on_line d) ∙ ended_stays h l k (lines (drop (end + 1) t))

      pub gathering_bad : {number : ℕ} → says k h (take (end - at) (drop at t)) ≡ bad number
          → through says counts full room (before h₀ [] 1) (lines t) ≡ refused_by number k
      gathering_bad {number} d = sym (on_line d) ∙ refused_stays number k (lines (drop (end + 1) t))

      -- an item: one that does not count, one that has room, and one that has none
      module _ {h' : H} {a : A} (d : says k h (take (end - at) (drop at t)) ≡ has h' a) where
        pub gathering_passes : counts a ≡ false → Gathering h₀ t (end + 1) h' l (k + 1)
        gathering_passes c = onto g.roomy (rw c at (on_line d))

        pub gathering_takes : counts a ≡ true → length l < room → Gathering h₀ t (end + 1) h' (l ++ (a ∷ [])) (k + 1)
        gathering_takes c r = onto (omega (arith, length-append l (a ∷ []))) (rw (c, lt-ltb (length l) room r) at (on_line d))

        pub gathering_full : counts a ≡ true → room ≤ length l → through says counts full room (before h₀ [] 1) (lines t) ≡ refused_by full k
        gathering_full c r = sym (rw (c, le-ltb (length l) room r) at (on_line d)) ∙ refused_stays full k (lines (drop (end + 1) t))

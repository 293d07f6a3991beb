-- A list gathered from the lines of a text, of any kind of item: what holds at the first line, and is kept by whatever a line says, holds at the end.
-- Assumes nothing.
use mathlib.Core.Path.{◌≡◌, refl}
use mathlib.Core.Bool.{Bool, true, false, cond}
use mathlib.Core.List.{List, [], ◌∷◌, ◌++◌}
use Prim.Native.Nat.{ℕ, ◌<◌}
use lib.Dec.{leb, ltb}
use lib.ListN.{length}
use borrow.Author.Tests.{ltb-true}
use Rattle.lines.specs.Lines.{lines}
use Rattle.lines.specs.Gathering.{most_text, Says, knows, has, over, bad, Progress, before, ended, refused_by, by_line, onward, through, gathered}

-- by a test, and what it says
pub by_test : {A : Type 0} (P : A → Type 0) (s : Bool) {x y : A} → (s ≡ true → P x) → (s ≡ false → P y) → P (cond s x y)
by_test P true f g = f refl
by_test P false f g = g refl

module _ {H A : Type 0} (counts : A → Bool) (room : ℕ) (Inv : H → List A → Type 0) where
  -- after a line that says so; an item that counts is taken where there is room
  abbrev pub After : List A → Says H A → Type 0
  After l (knows h) = Inv h l
  After l (has h a) = (counts a ≡ true → length l < room → Inv h (l ++ (a ∷ []))) × (counts a ≡ false → Inv h l)
  After l over = Unit {0}
  After l (bad number) = Unit {0}

-- however far a text is read
abbrev pub Throughout : {H A : Type 0} → (H → List A → Type 0) → Progress H A → Type 0
Throughout Inv (before h l k) = Inv h l
Throughout Inv (ended h l k) = Inv h l
Throughout Inv (refused_by number k) = Unit {0}

module _ {H A : Type 0} (says : ℕ → H → List ℕ → Says H A) (counts : A → Bool) (full room : ℕ) (Inv : H → List A → Type 0)
    (each : (k : ℕ) (h : H) (l : List A) → Inv h l → (x : List ℕ) → After counts room Inv l (says k h x)) where
  by_line_lem : (l : List A) (k : ℕ) (h : H) → Inv h l → (s : Says H A) → After counts room Inv l s → Throughout Inv (by_line says counts full room l k h s)
  by_line_lem l k h r (knows h') o = o
  by_line_lem l k h r (has h' a) o =
      by_test (Throughout Inv) (counts a) (λ e. by_test (Throughout Inv) (ltb (length l) room) (λ f. o.0 e (ltb-true (length l) room f)) (λ f. tt)) (λ e. o.1 e)
  by_line_lem l k h r over o = r
  by_line_lem l k h r (bad number) o = tt

  on_line : (p : Progress H A) (x : List ℕ) → Throughout Inv p → Throughout Inv (onward says counts full room p x)
  on_line (before h l k) x r = by_line_lem l k h r (says k h x) (each k h l r x)
  on_line (ended h l k) x r = r
  on_line (refused_by number k) x r = tt

  all_lines : (p : Progress H A) (xs : List (List ℕ)) → Throughout Inv p → Throughout Inv (through says counts full room p xs)
  unfolding through
  all_lines p [] r = r
  all_lines p (x ∷ xs) r = all_lines (onward says counts full room p x) xs (on_line p x r)

  pub gathered_keeps : (long : ℕ) (h : H) (t : List ℕ) → Inv h [] → Throughout Inv (gathered says counts full room long h t)
  unfolding gathered
  gathered_keeps long h t r = by_test (Throughout Inv) (leb (length t) most_text) (λ e. all_lines (before h [] 1) (lines t) r) (λ e. tt)
